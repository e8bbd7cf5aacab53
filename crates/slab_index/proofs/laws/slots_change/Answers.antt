use Rattle.slab_index.proofs.lemmas.Changing.{same_slots, one_more, one_less}
use Rattle.slab_index.proofs.laws.slots_change.Goals as goal

pub returns-clause-same : goal.returns-clause-same
returns-clause-same c = same_slots

pub returns-clause-one_more : goal.returns-clause-one_more
returns-clause-one_more c = one_more

pub returns-clause-one_less : goal.returns-clause-one_less
returns-clause-one_less c = one_less
