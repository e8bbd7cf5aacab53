use Rattle.line_forms.specs.Texts.{IsRefusal}
use Rattle.line_forms.proofs.lemmas.Tables.{err_is}
use Rattle.plan_text.specs.Plans.{plan_body, plan_script}
use Rattle.plan_text.proofs.plan.read_plan.Goals as goal

pub returns-in_err-config-clause-fault : goal.returns-in_err-config-clause-fault
returns-in_err-config-clause-fault c = err_is (IsRefusal plan_script c.args.text.now) c.from_residual.result _ c.from_residual.ensures.1 (c.in_err-config.ensures.fault plan_body)

pub read_body-requires-clause-head : goal.read_body-requires-clause-head
read_body-requires-clause-head c = c.in_ok-config.ensures.head plan_body
