use Rattle.std.proofs.Common.{[], sym}
use Rattle.message_texts.proofs.lemmas.Fields.{message_spelled}
use Rattle.message_texts.proofs.reading.message_of.Goals as goal

pub returns : goal.returns
returns c =
    message_spelled c.args.fields.now (record { ref_ptr = (0, 0); now = [] }) c.in-Some.client c.in-Some-number_u8.node c.in-Some-number.op c.in-Some-number-2.phase c.in-Some-2.body c.in-len5-up.len_at_least
    (sym c.in-Some.ensures) (sym c.in-Some-number_u8.ensures) (sym c.in-Some-number.ensures) (sym c.in-Some-number-2.ensures)
    (rw c.in-Some-2.is at c.in_ok-body.ensures)
