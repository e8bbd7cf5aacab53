use Rattle.message_texts.proofs.lemmas.Printed.{after_field}
use Rattle.message_texts.proofs.printing.add_bound.Goals as goal

pub returns-in_ok-add_field-in-AtMost : goal.returns-in_ok-add_field-in-AtMost
returns-in_ok-add_field-in-AtMost c = rw c.in-AtMost.is (after_field _ _ _ _ _ _ c.in_ok-add_field-in-AtMost.ensures c.add_stamp.ensures)

pub returns-in_ok-add_field-in-Below : goal.returns-in_ok-add_field-in-Below
returns-in_ok-add_field-in-Below c = rw c.in-Below.is (after_field _ _ _ _ _ _ c.in_ok-add_field-in-Below.ensures c.add_stamp-in-Below.ensures)
