-- The lemma of `Entries`.
use Rattle.plan_followed.proofs.lemmas.Entries.{one_more}
use Rattle.plan_followed.proofs.laws.entries.Goals as goal

pub returns : goal.returns
returns c = one_more
