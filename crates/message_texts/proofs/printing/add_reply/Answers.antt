use Rattle.message_texts.proofs.lemmas.Printed.{after_field}
use Rattle.message_texts.proofs.printing.add_reply.Goals as goal

pub returns-in_ok-add_field-in-TimeIs : goal.returns-in_ok-add_field-in-TimeIs
returns-in_ok-add_field-in-TimeIs c = rw c.in-TimeIs.is (after_field _ _ _ _ _ _ c.in_ok-add_field-in-TimeIs.ensures c.add_number.ensures)

pub returns-in_ok-add_field-in-Found : goal.returns-in_ok-add_field-in-Found
returns-in_ok-add_field-in-Found c = rw c.in-Found.is (after_field _ _ _ _ _ _ c.in_ok-add_field-in-Found.ensures c.add_version.ensures)

pub returns-in_ok-add_field-in-Refused : goal.returns-in_ok-add_field-in-Refused
returns-in_ok-add_field-in-Refused c = rw c.in-Refused.is (after_field _ _ _ _ _ _ c.in_ok-add_field-in-Refused.ensures (rw c.digit.ensures at c.add_field-in-Refused-2.ensures))
