use Rattle.slab_index.proofs.lemmas.Holding.{slots_hold}
use Rattle.slab_index.proofs.lemmas.Changing.{are_counted}
use Rattle.slab_index.proofs.laws.slots_hold_versions.Goals as goal

pub returns-clause-hold : goal.returns-clause-hold
returns-clause-hold c = slots_hold

pub returns-clause-counted : goal.returns-clause-counted
returns-clause-counted c = are_counted
