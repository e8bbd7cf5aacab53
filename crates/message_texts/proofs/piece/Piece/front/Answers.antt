use Rattle.message_texts.proofs.Pieces.{digits_longest}
use Rattle.message_texts.proofs.piece.Piece.front.Goals as goal

pub returns-in-Digits : goal.returns-in-Digits
returns-in-Digits c =
    let h = c.digits_front.ensures in
    rw c.in-Digits.is (digits_longest c.in-Digits.group c.in-Digits.least c.in-Digits.most c.args.text.now c.digits_front.result (rw c.in-Digits.is at c.requires) h.within h.few h.low h.stops)
