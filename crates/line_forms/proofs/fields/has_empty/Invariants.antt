use Rattle.std.proofs.Common.{◌≡◌, drop}
use Rattle.text_lines.specs.Lines.{texts}
use Rattle.line_forms.specs.Kinds.{has_empty_field}
use Rattle.line_forms.proofs.fields.has_empty.Given as goal

abbrev pub invariant-loop-field : goal.invariant-loop-field
invariant-loop-field l = has_empty_field (texts l.fields) ≡ has_empty_field (texts (drop l.field-index l.fields))
