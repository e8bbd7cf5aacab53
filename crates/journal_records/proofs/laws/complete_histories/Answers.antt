use Rattle.journal_records.proofs.Completing.{complete}
use Rattle.journal_records.proofs.laws.complete_histories.Goals as goal

pub returns : goal.returns
returns c = complete c.merged_runs.ensures.recorded c.records.ensures.told c.bounds.ensures.times c.spent.ensures.are c.followed_plans.ensures.of_run
