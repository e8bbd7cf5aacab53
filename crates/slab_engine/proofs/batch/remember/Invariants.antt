use Rattle.std.proofs.Common.{◌≡◌}
use Rattle.slab_engine.specs.Moves.{with_new, without_new}
use Rattle.slab_engine.proofs.batch.remember.Given as goal

abbrev pub invariant-loop-slots : goal.invariant-loop-slots
invariant-loop-slots l = (l.index ≡ with_new l.yielded l.fn.index) × (l.free ≡ without_new l.yielded l.fn.free)
