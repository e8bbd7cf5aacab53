use Rattle.slab_node.proofs.Rules.{batches, written}
use Rattle.slab_node.proofs.laws.batches_answer.Goals as goal

pub returns-clause-whole : goal.returns-clause-whole
returns-clause-whole c = written

pub returns-clause-cut_off : goal.returns-clause-cut_off
returns-clause-cut_off c = batches
