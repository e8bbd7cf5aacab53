use Rattle.pasis_shell.proofs.WellFormed.{plan_is_no_bad_script}
use Rattle.pasis_shell.proofs.laws.plans_are_no_bad_scripts.Goals as goal

pub returns-clause-run : goal.returns-clause-run
returns-clause-run c serving = plan_is_no_bad_script

pub returns-clause-trace : goal.returns-clause-trace
returns-clause-trace c serving = plan_is_no_bad_script
