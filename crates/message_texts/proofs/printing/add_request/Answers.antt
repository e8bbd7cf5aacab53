use Rattle.message_texts.proofs.lemmas.Printed.{after_field}
use Rattle.message_texts.proofs.printing.add_request.Goals as goal

pub returns-in_ok-add_field-in-Read : goal.returns-in_ok-add_field-in-Read
returns-in_ok-add_field-in-Read c = rw c.in-Read.is (after_field _ _ _ _ _ _ c.in_ok-add_field-in-Read.ensures c.add_bound.ensures)

pub returns-in_ok-add_field-in-Write : goal.returns-in_ok-add_field-in-Write
returns-in_ok-add_field-in-Write c = rw c.in-Write.is (after_field _ _ _ _ _ _ c.in_ok-add_field-in-Write.ensures c.add_version.ensures)
