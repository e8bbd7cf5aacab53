use Rattle.std.proofs.Common.{◌≡◌, ◌++◌}
use Rattle.picture_svg.specs.Words.{heads_words, repeated}
use Rattle.picture_svg.proofs.writing.write_heads_again.Given as goal

abbrev pub invariant-loop-band : goal.invariant-loop-band
invariant-loop-band l = l.texts ≡ l.fn.texts ++ repeated l.band (heads_words l.lifelines)
