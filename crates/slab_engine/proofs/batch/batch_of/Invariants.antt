use Rattle.slab_engine.specs.Batches.{IsBatchBelow}
use Rattle.slab_engine.proofs.batch.batch_of.Given as goal

abbrev pub invariant-loop-k : goal.invariant-loop-k
invariant-loop-k l = IsBatchBelow l.config l.key l.index l.asks l.added l.slots l.next l.k l.batch
