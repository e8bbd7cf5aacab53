use Rattle.std.proofs.Common.{◌++◌, map, List, ℕ, ap, ◌∙◌}
use Rattle.text_lines.specs.Lines.{fields_of, line_of_fields}
use Rattle.run_teller.specs.Short.{short_field}
use Rattle.run_teller.proofs.Joining.{first_part, joined_on}
use Rattle.run_teller.proofs.short.add_short_fields.Goals as goal

pub loop-field-preserved : goal.loop-field-preserved
loop-field-preserved c =
    c.loop-field.invariant
    ∙ ap (λ (t : List ℕ). c.loop-field.short ++ t) (first_part short_field 32 c.loop-field.rest.now c.in-Some.field.now c.in-Some.after.now c.in-Some.ensures.parts)
    ∙ joined_on c.loop-field.short c.add_short_field.new.short c.add_space.new.self (short_field c.in-Some.field.now) (line_of_fields (map short_field (fields_of c.in-Some.after.now))) 32 c.in_ok-add_short_field.ensures c.in_ok-add_space.ensures.ok
