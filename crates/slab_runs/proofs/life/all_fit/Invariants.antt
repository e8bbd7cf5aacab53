use Rattle.std.proofs.Common.{ℕ, ◌<◌, get_or}
use Rattle.slab_node.specs.declared.batch.Fresh.{Fresh}
use Rattle.slab_node.specs.Batches.{HasSizes}
use Rattle.slab_runs.proofs.life.all_fit.Given as goal

abbrev pub invariant-loop-fresh : goal.invariant-loop-fresh
invariant-loop-fresh l = (k : ℕ) (d : Fresh) → k < l.fresh-index → HasSizes l.fn.shape (get_or l.batch k d)
