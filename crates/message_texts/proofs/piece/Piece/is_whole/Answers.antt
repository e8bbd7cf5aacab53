use Rattle.message_texts.proofs.Pieces.{byte_test, digits_test}
use Rattle.message_texts.proofs.piece.Piece.is_whole.Goals as goal

pub returns-in-Byte : goal.returns-in-Byte
returns-in-Byte c = rw c.in-Byte.is (byte_test c.in-Byte.field-0 c.args.front.now c.is_empty.result (rw c.in-Byte.is at c.requires.begins) c.is_empty.ensures)

pub returns-then-front-least : goal.returns-then-front-least
returns-then-front-least c =
    rw c.in-Digits.is (digits_test c.in-Digits.group c.in-Digits.least c.in-Digits.most c.args.front.now (rw c.in-Digits.is at c.requires.begins) c.if-front-least.true)
