-- The text of a configuration and a value is accepted, and is the text of no others.
use Rattle.std.proofs.Common.{◌≡◌, ℕ, List, [], ◌∷◌, ◌++◌, length, drop, get_or, Some, None, refl, sym, ap, ◌∙◌, arith}
use Rattle.std.specs.Prelude.{codes}
use Rattle.std.proofs.lemmas.Bool.{eq-eqb}
use Rattle.std.proofs.lemmas.List.Concat.{flat_map-append}
use Rattle.quorum_rules.specs.Limits.{Numbers}
use Rattle.text_lines.specs.Lines.{parts_of, fields_of, line_of_fields, AllLack}
use Rattle.text_lines.specs.Fields.{value_of, value_text}
use Rattle.text_lines.proofs.lemmas.Values.{value_of-text}
use Rattle.text_lines.proofs.lemmas.Joined.{parts-joined, Lacks-value_text}
use Rattle.line_forms.specs.Kinds.{form_cause}
use Rattle.line_forms.specs.Texts.{IsFaultless, ReadsTo}
use Rattle.line_forms.specs.Heads.{head_lines, head_text}
use Rattle.line_forms.proofs.lemmas.Accepted.{head_accepted, line_apart, one_head}
use Rattle.script_text.specs.Sum.{IsSum, sum_text, sum_lines, sum_script, sum_body, value_fields, value_form}
use Rattle.script_text.proofs.Sums.{HeadRead, value_cause, value_line_read, sum_faultless}

value_apart : (v : List ℕ) → fields_of (line_of_fields (value_fields v)) ≡ value_fields v
value_apart v = parts-joined 32 (codes "value") (value_text v ∷ []) (refl, (Lacks-value_text 32 v (omega arith) (omega arith), tt))

value_accepted : (c : Numbers) (v : List ℕ) → IsSum c v → form_cause (value_form c.size) (fields_of (line_of_fields (value_fields v))) ≡ None
value_accepted c v s =
    ap (form_cause (value_form c.size)) (value_apart v) ∙ value_cause (codes "value") (value_text v) c.size refl (omega arith)
    ∙ rw (value_of-text v s.bytes, eq-eqb (length v) c.size s.size) refl

text_apart : (c : Numbers) (v : List ℕ) → sum_text c v ≡ head_text c ++ ((line_of_fields (value_fields v) ++ 10 ∷ []) ++ [])
text_apart c v = flat_map-append (λ l. l ++ 10 ∷ []) (head_lines c) (line_of_fields (value_fields v) ∷ [])

-- the text was read so far
sum_reads : (c : Numbers) (v : List ℕ) → IsSum c v → ReadsTo sum_script (sum_text c v) (sum_lines c v) []
sum_reads c v s =
    let line = line_of_fields (value_fields v) in
    let rest = (line ++ 10 ∷ []) ++ [] in
    let lack : AllLack 10 (value_fields v) = (refl, (Lacks-value_text 10 v (omega arith) (omega arith), tt)) in
    let head : HeadRead (sum_text c v) c 0 rest = record { valid = s.valid; of_scripts = s.of_scripts; reads = rw (text_apart c v) (head_accepted sum_body c rest s.valid s.of_scripts) } in
    let parts : parts_of rest ≡ line ∷ parts_of [] = line_apart (codes "value") (value_text v ∷ []) [] lack in
    (value_line_read (sum_text c v) c 0 rest line [] v c.size head parts refl (value_accepted c v s, (sym (value_apart v), s.size, s.bytes))).reads

pub sum_accepted : (c : Numbers) (v : List ℕ) → IsSum c v → IsFaultless sum_script (sum_text c v)
sum_accepted c v s = sum_faultless (sum_text c v) c v [] (sum_reads c v s) refl

some_same : (v w : List ℕ) → Some v ≡ Some w → v ≡ w
some_same v w e = cc

pub one_sum : (c d : Numbers) (v w : List ℕ) → IsSum c v → IsSum d w → sum_text c v ≡ sum_text d w → (c ≡ d) × (v ≡ w)
one_sum c d v w s t e =
    let lines : sum_lines c v ++ [] ∷ [] ≡ sum_lines d w ++ [] ∷ [] = sym (sum_reads c v s).parts ∙ ap parts_of e ∙ (sum_reads d w t).parts in
    let third : line_of_fields (value_fields v) ≡ line_of_fields (value_fields w) = ap (λ (ls : List (List ℕ)). get_or ls 2 []) lines in
    let text : value_text v ≡ value_text w = ap (λ (l : List ℕ). drop 6 l) third in (
      one_head c d _ _ s.valid s.of_scripts t.valid t.of_scripts lines,
      some_same v w (sym (value_of-text v s.bytes) ∙ ap value_of text ∙ value_of-text w t.bytes),
    )
