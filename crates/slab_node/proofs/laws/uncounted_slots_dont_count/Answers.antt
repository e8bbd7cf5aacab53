use Rattle.slab_node.proofs.Rules.{uncounted_slots}
use Rattle.slab_node.proofs.laws.uncounted_slots_dont_count.Goals as goal

pub returns : goal.returns
returns c = uncounted_slots
