-- The lemma of `Seeing`.
use Rattle.plan_followed.proofs.Seeing.{merges_into_seen}
use Rattle.plan_followed.proofs.laws.merges.Goals as goal

pub returns : goal.returns
returns c = merges_into_seen
