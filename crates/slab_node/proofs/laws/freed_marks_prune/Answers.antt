use Rattle.slab_node.proofs.Rules.{freed, going_stay}
use Rattle.slab_node.proofs.laws.freed_marks_prune.Goals as goal

pub returns-clause-pruned : goal.returns-clause-pruned
returns-clause-pruned c = freed

pub returns-clause-going : goal.returns-clause-going
returns-clause-going c = going_stay
