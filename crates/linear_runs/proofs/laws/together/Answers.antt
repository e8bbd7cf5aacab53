-- The law is a lemma of `Whole`.
use Rattle.linear_runs.proofs.Whole.{one_order}
use Rattle.linear_runs.proofs.laws.together.Goals as goal

pub returns : goal.returns
returns a = one_order
