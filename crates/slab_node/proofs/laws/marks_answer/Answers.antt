use Rattle.slab_node.proofs.Rules.{marks}
use Rattle.slab_node.proofs.laws.marks_answer.Goals as goal

pub returns : goal.returns
returns c = marks
