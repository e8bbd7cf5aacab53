use Rattle.store_tests.specs.Drawn.{AreBelow}
use Rattle.store_tests.proofs.batch.drawn_batch.Given as goal

-- what was drawn so far is on the blocks so far
abbrev pub invariant-loop-block : goal.invariant-loop-block
invariant-loop-block l = AreBelow l.config l.block l.ops.items
