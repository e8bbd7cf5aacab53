use Rattle.slab_engine.specs.Batches.{AreAddingBelow}
use Rattle.slab_engine.proofs.plan.adding.Given as goal

abbrev pub invariant-loop-i : goal.invariant-loop-i
invariant-loop-i l = AreAddingBelow l.plans l.i l.added.items
