-- Lemmas of `Joins`.
use Rattle.locked_nodes.proofs.lemmas.Joins.{join_has, join_sum, join_ascends, join_own, join_other, join_grows}
use Rattle.locked_nodes.proofs.laws.joined_journals.Goals as goal

pub returns : goal.returns
returns c = record { has = join_has; counts = join_sum; ascends = join_ascends; keeps = λ p xs ys. (join_own p xs ys, join_other p xs ys); grows = join_grows }
