use Rattle.slab_engine.proofs.Crashing.{crash_leaves}
use Rattle.slab_engine.proofs.laws.crashes_leave_part.Goals as goal

pub returns : goal.returns
returns c = crash_leaves
