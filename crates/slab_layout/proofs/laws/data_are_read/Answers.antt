use Rattle.slab_layout.proofs.lemmas.Codec.{data_back, data_forth}
use Rattle.slab_layout.proofs.laws.data_are_read.Goals as goal

pub returns-clause-back : goal.returns-clause-back
returns-clause-back c = data_back

pub returns-clause-forth : goal.returns-clause-forth
returns-clause-forth c = data_forth
