use Rattle.slab_engine.proofs.Joining.{done}
use Rattle.slab_engine.proofs.laws.written_batches_are_done.Goals as goal

pub returns : goal.returns
returns c = done
