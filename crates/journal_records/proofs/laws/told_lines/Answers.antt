use Rattle.journal_records.proofs.ToldLines.{told}
use Rattle.journal_records.proofs.laws.told_lines.Goals as goal

pub returns : goal.returns
returns c = told c.cluster.ensures c.fitting_lines.ensures c.followed_plans.ensures.of_run
