use Rattle.store_words.proofs.Exact.{no_cause}
use Rattle.store_words.proofs.laws.words_have_no_cause.Goals as goal

pub returns : goal.returns
returns c = no_cause
