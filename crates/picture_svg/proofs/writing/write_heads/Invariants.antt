use Rattle.std.proofs.Common.{◌≡◌, ◌++◌, drop}
use Rattle.picture_svg.specs.Words.{heads_words}
use Rattle.picture_svg.proofs.writing.write_heads.Given as goal

abbrev pub invariant-loop-lifeline : goal.invariant-loop-lifeline
invariant-loop-lifeline l = l.fn.texts ++ heads_words l.lifelines ≡ l.texts ++ heads_words (drop l.lifeline-index l.lifelines)
