use Rattle.slab_engine.proofs.Ending.{tells_then}
use Rattle.slab_engine.proofs.laws.batches_are_remembered.Goals as goal

pub returns : goal.returns
returns c = tells_then
