use Rattle.message_texts.proofs.lemmas.Unique.{message_unique}
use Rattle.message_texts.proofs.laws.texts_are_unique.Goals as goal

pub returns : goal.returns
returns c = λ m n a b e. message_unique m n a b e
