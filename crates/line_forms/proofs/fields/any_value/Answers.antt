use Rattle.std.proofs.Common.{◌≡◌, ℕ, List, [], ◌∷◌, false, Some, None, refl, sym, ◌∙◌}
use Rattle.text_lines.specs.Fields.{value_of, value_text, IsBytes}
use Rattle.text_lines.proofs.lemmas.Values.{value_of-some}
use Rattle.line_forms.specs.Kinds.{form_cause, has_empty_field}
use Rattle.line_forms.specs.Kinds.Kind.{bytes}
use Rattle.line_forms.proofs.fields.any_value.Goals as goal

value_read : (field v : List ℕ) → has_empty_field (field ∷ []) ≡ false → value_of field ≡ Some v → (form_cause (bytes ∷ []) (field ∷ []) ≡ None) × ((value_text v ≡ field) × IsBytes v)
value_read field v full is = let s = value_of-some field v is in (rw (full, is) refl, (sym s.0, s.1))

pub returns : goal.returns
returns c = value_read c.args.field.now c.in_ok-value-2.value c.requires (sym c.in_ok-value.ensures ∙ c.in_ok-value-2.ensures.ok_part)
