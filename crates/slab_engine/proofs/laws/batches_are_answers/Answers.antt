use Rattle.slab_engine.proofs.Writing.{all_answered}
use Rattle.slab_engine.proofs.laws.batches_are_answers.Goals as goal

pub returns : goal.returns
returns c = all_answered
