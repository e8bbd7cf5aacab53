use Rattle.std.proofs.Common.{◌≡◌, ◌++◌, map, length}
use Rattle.text_lines.specs.Lines.{parts_of}
use Rattle.run_teller.specs.Short.{short_line}
use Rattle.run_teller.proofs.short.short_lines.Given as goal

abbrev pub invariant-loop-line : goal.invariant-loop-line
invariant-loop-line l = l.lines.items ++ map short_line (parts_of l.rest) ≡ map short_line (parts_of l.text)

abbrev pub decreases-loop-line : goal.decreases-loop-line
decreases-loop-line l = length l.rest
