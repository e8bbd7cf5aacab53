use Rattle.std.proofs.Common.{◌≡◌, ◌+◌, ◌++◌, map, drop, All}
use Rattle.protocol.specs.Instance.{setting}
use Rattle.batch_clients.specs.Batches.{begun, AreAsksOf}
use Rattle.batch_clients.specs.Parts.{running, lists_of, IsRun}
use Rattle.batch_clients.proofs.batch.Batch.begin.Given as goal

abbrev pub invariant-loop-op : goal.invariant-loop-op
invariant-loop-op l = record {
  number : l.id ≡ l.op-index + 1;
  made : map running l.runs.items ++ begun (setting l.config) l.id (drop l.op-index l.ops) ≡ begun (setting l.config) 1 l.ops;
  asked : AreAsksOf (setting l.config) (map running l.runs.items) (lists_of l.asks.items);
  runs : All (IsRun l.config 1) l.runs.items;
}
