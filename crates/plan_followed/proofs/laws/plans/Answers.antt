-- Lemmas of `Plans`.
use Rattle.plan_followed.proofs.lemmas.Plans.{has_conduct, has_liars, has_cluster}
use Rattle.plan_followed.proofs.laws.plans.Goals as goal

pub returns : goal.returns
returns c = record { conduct = has_conduct; liars = has_liars; cluster = has_cluster }
