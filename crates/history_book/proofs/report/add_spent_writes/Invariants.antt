use Rattle.std.proofs.Common.{◌≡◌, ◌++◌, map, drop}
use Rattle.text_lines.specs.Lines.{text_of_lines}
use Rattle.history_book.specs.Reports.{spent_line}
use Rattle.history_book.proofs.report.add_spent_writes.Given as goal

abbrev pub invariant-loop-write : goal.invariant-loop-write
invariant-loop-write l = l.fn.text ++ text_of_lines (map spent_line l.spent) ≡ l.text ++ text_of_lines (map spent_line (drop l.write-index l.spent))
