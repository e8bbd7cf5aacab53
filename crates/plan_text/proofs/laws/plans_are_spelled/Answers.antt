use Rattle.plan_text.proofs.lemmas.PlanLaws.{plan_accepted, one_plan, text_spells}
use Rattle.plan_text.proofs.laws.plans_are_spelled.Goals as goal

pub returns-clause-accepted : goal.returns-clause-accepted
returns-clause-accepted c = plan_accepted

pub returns-clause-one : goal.returns-clause-one
returns-clause-one c = one_plan

pub returns-clause-text : goal.returns-clause-text
returns-clause-text c = text_spells
