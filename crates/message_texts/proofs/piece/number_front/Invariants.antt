use Rattle.std.proofs.Common.{◌-◌, ◌≤◌, length, take}
use Rattle.message_texts.specs.declared.piece.Piece.TheVariants.{Number}
use Rattle.message_texts.specs.Longest.{Begins}
use Rattle.message_texts.specs.Pieces.{IsPiece}
use Rattle.message_texts.proofs.piece.number_front.Given as goal

abbrev pub invariant-loop-end : goal.invariant-loop-end
invariant-loop-end l = (l.end ≤ length l.text) × Begins (IsPiece (Number l.most)) (take l.end l.text)

abbrev pub decreases-loop-end : goal.decreases-loop-end
decreases-loop-end l = length l.text - l.end
