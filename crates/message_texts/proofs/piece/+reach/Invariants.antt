use Rattle.std.proofs.Common.{length}
use Rattle.message_texts.proofs.piece.+reach.Given as goal

abbrev pub decreases-reach : goal.decreases-reach
decreases-reach l = length l.form.now
