use Rattle.std.proofs.Common.{◌≡◌, ◌++◌, map, length}
use Rattle.text_lines.specs.Lines.{fields_of, line_of_fields}
use Rattle.run_teller.specs.Short.{short_field}
use Rattle.run_teller.proofs.short.add_short_fields.Given as goal

abbrev pub invariant-loop-field : goal.invariant-loop-field
invariant-loop-field l = l.fn.short ++ line_of_fields (map short_field (fields_of l.line)) ≡ l.short ++ line_of_fields (map short_field (fields_of l.rest))

abbrev pub decreases-loop-field : goal.decreases-loop-field
decreases-loop-field l = length l.rest
