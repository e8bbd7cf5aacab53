use Rattle.slab_node.proofs.Rules.{free_slots}
use Rattle.slab_node.proofs.laws.free_slots_dont_count.Goals as goal

pub returns : goal.returns
returns c = free_slots
