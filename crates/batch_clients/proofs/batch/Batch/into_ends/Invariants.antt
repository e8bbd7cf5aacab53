use Rattle.std.proofs.Common.{◌≡◌, ◌++◌, map, length}
use Rattle.std.specs.Vec.Iter.{into_iter_items, into_iter_len}
use Rattle.batch_clients.specs.Batches.{Running, end_of}
use Rattle.batch_clients.specs.Parts.{running}
use Rattle.batch_clients.proofs.batch.Batch.into_ends.Given as goal

abbrev pub invariant-loop-run : goal.invariant-loop-run
invariant-loop-run l = record {
  made : l.ends.items ++ map (λ (r : Running). end_of r.stand) (map running (into_iter_items l.run-iterator)) ≡ map (λ (r : Running). end_of r.stand) l.fn.self.runs;
  left : into_iter_len l.run-iterator ≡ length (into_iter_items l.run-iterator);
}
