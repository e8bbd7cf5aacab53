use Rattle.std.proofs.Common.{◌≡◌, ◌++◌, map, drop}
use Rattle.text_lines.specs.Lines.{text_of_lines}
use Rattle.history_book.specs.Reports.{entry_line}
use Rattle.history_book.proofs.report.add_entries.Given as goal

abbrev pub invariant-loop-entry : goal.invariant-loop-entry
invariant-loop-entry l = l.fn.text ++ text_of_lines (map entry_line l.entries) ≡ l.text ++ text_of_lines (map entry_line (drop l.entry-index l.entries))
