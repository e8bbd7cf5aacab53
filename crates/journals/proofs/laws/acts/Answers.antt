-- Lemmas of `Doing`.
use Rattle.journals.proofs.Doing.{calls_go, late_acts_go, prunes_go}
use Rattle.journals.proofs.laws.acts.Goals as goal

pub returns : goal.returns
returns c = record { calls = calls_go; late = late_acts_go; prunes = prunes_go }
