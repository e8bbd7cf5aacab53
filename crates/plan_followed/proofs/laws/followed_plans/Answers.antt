-- Lemmas of `Phases`.
use Rattle.plan_followed.proofs.lemmas.Phases.{plans_phase, plans_run}
use Rattle.plan_followed.proofs.laws.followed_plans.Goals as goal

pub returns : goal.returns
returns c = record { phased = plans_phase; of_run = plans_run c.phases.ensures c.plans.ensures.cluster }
