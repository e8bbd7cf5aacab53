use Rattle.pasis_shell.proofs.WellFormed.{replay_is_accepted, sum_is_accepted, report_is_accepted}
use Rattle.pasis_shell.proofs.laws.well_formed_inputs_are_accepted.Goals as goal

pub returns-clause-replays : goal.returns-clause-replays
returns-clause-replays c = replay_is_accepted

pub returns-clause-sums : goal.returns-clause-sums
returns-clause-sums c = sum_is_accepted

pub returns-clause-reports : goal.returns-clause-reports
returns-clause-reports c = report_is_accepted
