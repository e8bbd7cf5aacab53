use Rattle.slab_engine.proofs.Pruning.{prunes_told}
use Rattle.slab_engine.proofs.prune.prunes_are_told.Goals as goal

pub returns : goal.returns
returns c = prunes_told
