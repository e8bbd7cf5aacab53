use Rattle.slab_index.proofs.lemmas.Telling.{slots_tell}
use Rattle.slab_index.proofs.laws.slots_tell.Goals as goal

pub returns : goal.returns
returns c = slots_tell
