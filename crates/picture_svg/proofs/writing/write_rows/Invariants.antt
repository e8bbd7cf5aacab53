use Rattle.std.proofs.Common.{◌≡◌, ◌++◌, ◌+◌, drop}
use Rattle.picture_svg.specs.Words.{rows_words}
use Rattle.picture_svg.proofs.writing.write_rows.Given as goal

abbrev pub invariant-loop-number : goal.invariant-loop-number
invariant-loop-number l = l.fn.texts ++ rows_words 1 l.rows ≡ l.texts ++ rows_words (l.number + 1) (drop l.number l.rows)
