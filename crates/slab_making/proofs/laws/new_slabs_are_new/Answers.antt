use Rattle.slab_making.proofs.Blank.{new_slabs}
use Rattle.slab_making.proofs.laws.new_slabs_are_new.Goals as goal

pub returns : goal.returns
returns c = new_slabs
