-- The law is a lemma of `Kept`.
use Rattle.protocol.proofs.lemmas.Kept.{run_parts}
use Rattle.protocol.proofs.laws.runs.Goals as goal

pub returns : goal.returns
returns a = λ s w lines more last. run_parts s last more lines w
