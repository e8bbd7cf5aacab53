use Rattle.std.proofs.Common.{sym, arith}
use Rattle.message_texts.proofs.Pieces.{low_more}
use Rattle.message_texts.proofs.piece.digits_front.Goals as goal

pub loop-end-preserved : goal.loop-end-preserved
loop-end-preserved c = (omega arith, omega arith, low_more c.args.text.now c.loop-end.end (omega arith) c.loop-end.invariant.2 (sym c.if-is_low_digit.ensures))
