-- The law is a lemma of `Replacing`.
use Rattle.protocol.proofs.lemmas.Replacing.{with_iff}
use Rattle.protocol.proofs.laws.replacements.Goals as goal

pub returns : goal.returns
returns a = with_iff
