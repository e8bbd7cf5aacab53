use Rattle.std.proofs.Common.{◌≡◌, ◌++◌, drop}
use Rattle.std.specs.List.{flat_map}
use Rattle.picture_svg.specs.Shapes.{words_text}
use Rattle.picture_svg.proofs.elements.add_texts.Given as goal

abbrev pub invariant-loop-one : goal.invariant-loop-one
invariant-loop-one l = l.fn.text ++ flat_map words_text l.words ≡ l.text ++ flat_map words_text (drop l.one-index l.words)
