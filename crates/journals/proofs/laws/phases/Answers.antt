-- The lemma of `Phasing`.
use Rattle.journals.proofs.Phasing.{phases_follow}
use Rattle.journals.proofs.laws.phases.Goals as goal

pub returns : goal.returns
returns c = phases_follow
