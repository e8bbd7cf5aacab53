use Rattle.std.proofs.Common.{length}
use Rattle.message_texts.proofs.piece.+furthest.Given as goal

abbrev pub decreases-furthest : goal.decreases-furthest
decreases-furthest l = length l.forms.now
