use Rattle.message_texts.proofs.lemmas.Printed.{after_field}
use Rattle.message_texts.proofs.printing.add_ask.Goals as goal

pub returns : goal.returns
returns c = after_field _ _ _ _ _ _ (rw c.from.ensures at c.in_ok-add_number.ensures) c.add_request.ensures
