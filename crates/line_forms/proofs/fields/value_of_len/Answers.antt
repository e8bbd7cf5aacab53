use Rattle.std.proofs.Common.{◌≡◌, ℕ, List, [], ◌∷◌, length, Some, None, refl, sym, ◌∙◌}
use Rattle.std.proofs.lemmas.Bool.{eq-eqb}
use Rattle.text_lines.specs.Fields.{value_of, value_text, IsBytes}
use Rattle.text_lines.proofs.lemmas.Values.{value_of-some}
use Rattle.line_forms.specs.Kinds.{has_other_length}
use Rattle.line_forms.specs.Tables.{first_of}
use Rattle.line_forms.specs.declared.cause.Cause.TheVariants.{BadValue}
use Rattle.line_forms.proofs.fields.value_of_len.Goals as goal

value_read : (field v : List ℕ) (len : ℕ) → value_of field ≡ Some v → length v ≡ len → (first_of ((has_other_length len (value_of field), BadValue) ∷ []) ≡ None) × ((value_text v ≡ field) × (length v ≡ len) × IsBytes v)
value_read field v len is size =
    let s = value_of-some field v is in
    (rw (is, eq-eqb (length v) len size) refl, (sym s.0, size, s.1))

pub returns : goal.returns
returns c = value_read c.args.field.now c.in_ok-value-2.value c.args.len (sym c.in_ok-value.ensures ∙ c.in_ok-value-2.ensures.ok_part) (sym c.len.ensures ∙ c.if-len.false)
