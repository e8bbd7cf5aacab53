use Rattle.std.proofs.Common.{◌≡◌, take}
use Rattle.version_disk.specs.Batches.{IsBatchOf}
use Rattle.version_disk.specs.Undone.{undone, LeadTo}
use Rattle.version_disk.proofs.batch.answer_each.Given as goal

abbrev pub invariant-loop-ask : goal.invariant-loop-ask
invariant-loop-ask l = record {
  batch : IsBatchOf l.fn.node (take l.ask-index l.asks) l.node l.batch;
  undone : undone l.node l.batch.added.items ≡ l.fn.node;
  led : LeadTo l.node l.batch.added.items;
  config : l.node.config ≡ l.fn.node.config;
  number : l.node.number ≡ l.fn.node.number;
}
