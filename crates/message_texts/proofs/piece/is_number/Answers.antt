use Rattle.std.proofs.Common.{sym}
use Rattle.std.proofs.lemmas.Bool.{le-leb, leb-true, false≢true}
use Rattle.message_texts.proofs.Pieces.{number_is, number_is_not}
use Rattle.message_texts.proofs.piece.is_number.Goals as goal

pub returns-in-Some : goal.returns-in-Some
returns-in-Some c =
    let h = number_is c.args.most c.in-Some.n c.args.field.now c.ranges.most.fits (sym c.in-Some.ensures) in
    (λ yes. h.0 (leb-true c.in-Some.n c.args.most yes), λ p. le-leb c.in-Some.n c.args.most (h.1 p))

pub returns-in-None : goal.returns-in-None
returns-in-None c = (λ no. absurd (false≢true no), λ p. absurd (number_is_not c.args.most c.args.field.now c.ranges.most.fits (sym c.in-None.ensures) p))
