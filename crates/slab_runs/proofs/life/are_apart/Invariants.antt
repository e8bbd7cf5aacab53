use Rattle.std.proofs.Common.{ℕ, ◌<◌, get_or}
use Rattle.slab_node.specs.declared.batch.Fresh.{Fresh}
use Rattle.slab_runs.proofs.life.are_apart.Given as goal

abbrev pub invariant-loop-i : goal.invariant-loop-i
invariant-loop-i l = (j k : ℕ) (d : Fresh) → j < k → k < l.i → (get_or l.batch k d).slot < (get_or l.batch j d).slot
