use Rattle.journal_records.proofs.FewRecords.{few_records}
use Rattle.journal_records.proofs.laws.few_records.Goals as goal

pub returns : goal.returns
returns c = few_records c.followed_plans.ensures.of_run
