use Rattle.journal_records.proofs.LastWorld.{steady}
use Rattle.journal_records.proofs.laws.steady_records.Goals as goal

pub returns : goal.returns
returns c = steady c.merged_runs.ensures.reach c.merged_runs.ensures.recorded c.open_records.ensures.tell c.followed_plans.ensures.of_run
