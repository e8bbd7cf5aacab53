use Rattle.std.proofs.Common.{◌≡◌, ◌<◌, ℕ, List, [], ◌∷◌, length, get_or, ap, refl, sym, ◌∙◌, arith}
use Rattle.std.specs.Prelude.{codes}
use Rattle.std.specs.Borrow.{Bor}
use Rattle.std.proofs.lemmas.Bool.{not-false}
use Rattle.std.proofs.lemmas.Grind.{common_steps}
use Rattle.std.proofs.lemmas.Slice.Eq.{bytes_eq-Decides}
use Rattle.text_lines.specs.Fields.{value_text, IsBytes}
use Rattle.text_lines.specs.Lines.{texts}
use Rattle.line_forms.proofs.lemmas.Tables.{gives_same}
use Rattle.script_text.specs.Sum.{value_fields}
use Rattle.script_text.proofs.Sums.{value_cause, one_text}
use Rattle.script_text.proofs.sum.value_in.Goals as goal

pub returns : goal.returns
returns c =
    let d : Bor (List ℕ) = record { ref_ptr = (0, 0); now = [] } in
    let word = c.in-Some.word.now.now in
    let field = (get_or c.in-Some.fields.now 0 d).now in
    let low = c.in-len1.len_at_least in
    let high = c.in-len1.len_below in
    let split : texts c.args.fields.now ≡ word ∷ field ∷ [] = ap texts c.in-Some.ensures.cases.0 ∙ ap (λ (fs : List (List ℕ)). word ∷ fs) (one_text c.in-Some.fields.now d (omega arith)) in
    let is : word ≡ codes "value" = (bytes_eq-Decides word (codes "value")).0 (rw c.as_slice.ensures at (not-false _ (sym c.if-ne.ensures))) in
    let some : 0 < length field = grind (arith, common_steps, c.if-is_empty.ensures) in
    rw split (gives_same
    (λ (v : List ℕ). (value_text v ≡ field) × (length v ≡ c.args.len) × IsBytes v)
    (λ (v : List ℕ). (value_fields v ≡ word ∷ field ∷ []) × (length v ≡ c.args.len) × IsBytes v) _ _ c.value_of_len.result
    (λ v h. (rw (h.0, is) refl, h.1, h.2)) (value_cause word field c.args.len is some) c.value_of_len.ensures)
