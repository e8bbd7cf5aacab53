use Rattle.std.proofs.Common.{◌≡◌, ◌++◌, map, drop}
use Rattle.text_lines.specs.Lines.{text_of_lines}
use Rattle.soak_loads.specs.Soaks.{plain_line}
use Rattle.soak_loads.proofs.print.add_entries.Given as goal

abbrev pub invariant-loop-entry : goal.invariant-loop-entry
invariant-loop-entry l = l.fn.text ++ text_of_lines (map plain_line l.entries) ≡ l.text ++ text_of_lines (map plain_line (drop l.entry-index l.entries))
