use Rattle.std.proofs.Common.{arith}
use Rattle.std.proofs.lemmas.Bool.{false≢true}
use Rattle.message_texts.proofs.Pieces.{number_begins, number_longest}
use Rattle.message_texts.proofs.piece.number_front.Goals as goal

pub loop-end-init : goal.loop-end-init
loop-end-init c = (omega arith, number_begins c.args.most)

pub returns-else-is_number : goal.returns-else-is_number
returns-else-is_number c =
    number_longest c.args.most c.args.text.now c.loop-end.end c.ranges.most.fits c.loop-end.invariant.0 c.loop-end.invariant.1
    (λ lt is. false≢true (c.if-is_number.ensures.1 is))
