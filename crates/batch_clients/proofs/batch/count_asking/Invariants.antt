use Rattle.std.proofs.Common.{◌≡◌, ◌≤◌, ◌+◌, map, drop, sum}
use Rattle.batch_clients.specs.Batches.{Running, how_many}
use Rattle.batch_clients.specs.Parts.{running}
use Rattle.batch_clients.proofs.batch.count_asking.Given as goal

abbrev pub invariant-loop-run : goal.invariant-loop-run
invariant-loop-run l = record {
  few : l.asking ≤ l.run-index;
  count : l.asking + sum (map (λ (r : Running). how_many r.stand) (map running (drop l.run-index l.runs))) ≡ sum (map (λ (r : Running). how_many r.stand) (map running l.runs));
}
