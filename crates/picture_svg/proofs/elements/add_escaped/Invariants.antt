use Rattle.std.proofs.Common.{◌≡◌, ◌++◌, drop}
use Rattle.picture_svg.specs.Shapes.{escaped}
use Rattle.picture_svg.proofs.elements.add_escaped.Given as goal

abbrev pub invariant-loop-letter : goal.invariant-loop-letter
invariant-loop-letter l = l.fn.text ++ escaped l.words ≡ l.text ++ escaped (drop l.letter-index l.words)
