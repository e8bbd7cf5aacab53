-- Lines and fields put together and taken apart again.
use Rattle.std.proofs.Common.{◌≡◌, ◌≢◌, ℕ, ◌<◌, ◌/◌, ◌%◌, ◌^◌, Bool, true, false, cond, eqb, ltb, List, [], ◌∷◌, ◌++◌, refl, sym, ap, ◌∙◌, arith, inl, inr, append_assoc}
use Rattle.std.specs.Prelude.{decimal, slice_index}
use Rattle.std.specs.List.{onto_first, join_with_byte, list_any, AllByRecursion}
use Rattle.std.specs.Str.Parse.{AllDigits}
use Rattle.std.proofs.lemmas.Bool.{agree_below_at, cases_lt, ltb-true, or_parts}
use Rattle.std.proofs.lemmas.List.{get_or_past}
use Rattle.std.proofs.lemmas.List.Splits.{slice_split-cons_no, join_with_byte-slice_split}
use Rattle.std.proofs.lemmas.Fmt.{decimal_is_IsNumeral}
use Rattle.std.proofs.lemmas.Str.Parse.{digit_from_value}
use Rattle.hex.specs.Hex.{lower_digits, encode_lower, encode_with}
pub use Rattle.text_lines.specs.Lines.{Lacks}
use Rattle.text_lines.specs.Lines.{parts_at, parts_of, text_of_lines, fields_of, line_of_fields}
use Rattle.text_lines.specs.Fields.{value_text}
use Rattle.lists.proofs.lemmas.Tests.{other_below, eqb_self}

-- a text that lacks the mark is the first part
pub part_before : (mark : ℕ) (x rest : List ℕ) → Lacks mark x → parts_at mark (x ++ mark ∷ rest) ≡ x ∷ parts_at mark rest
part_before mark [] rest h = rw (eqb_self mark) refl
part_before mark (c ∷ x) rest h =
    let p = or_parts (eqb c mark) (list_any (λ byte. eqb byte mark) x) h in
    slice_split-cons_no (λ byte. eqb byte mark) c (x ++ mark ∷ rest) p.0 ∙ ap (onto_first c) (part_before mark x rest p.1)

pub only_part : (mark : ℕ) (x : List ℕ) → Lacks mark x → parts_at mark x ≡ x ∷ []
only_part mark [] h = refl
only_part mark (c ∷ x) h =
    let p = or_parts (eqb c mark) (list_any (λ byte. eqb byte mark) x) h in
    slice_split-cons_no (λ byte. eqb byte mark) c x p.0 ∙ ap (onto_first c) (only_part mark x p.1)

-- joined parts come apart as they were
pub parts-joined : (mark : ℕ) (first : List ℕ) (more : List (List ℕ)) → AllByRecursion (Lacks mark) (first ∷ more) → parts_at mark (join_with_byte mark (first ∷ more)) ≡ first ∷ more
parts-joined mark first [] h = only_part mark first h.0
parts-joined mark first (next ∷ more) h = part_before mark first (join_with_byte mark (next ∷ more)) h.0 ∙ ap (λ (ps : List (List ℕ)). first ∷ ps) (parts-joined mark next more h.1)

-- the lines of a text of lines
pub parts-text_of_lines : (lines : List (List ℕ)) → AllByRecursion (Lacks 10) lines → parts_of (text_of_lines lines) ≡ lines ++ [] ∷ []
parts-text_of_lines [] h = refl
parts-text_of_lines (line ∷ lines) h =
    rw append_assoc (part_before 10 line (text_of_lines lines) h.0) ∙ ap (λ (ps : List (List ℕ)). line ∷ ps) (parts-text_of_lines lines h.1)

joined_lines : (lines : List (List ℕ)) → join_with_byte 10 (lines ++ [] ∷ []) ≡ text_of_lines lines
joined_lines [] = refl
joined_lines (line ∷ []) = rw append_assoc refl
joined_lines (line ∷ next ∷ lines) = rw append_assoc (ap (λ (t : List ℕ). line ++ 10 ∷ t) (joined_lines (next ∷ lines)))

-- a text of whole lines is the text of these lines
pub text_from_parts : (text : List ℕ) (lines : List (List ℕ)) → parts_of text ≡ lines ++ [] ∷ [] → text ≡ text_of_lines lines
text_from_parts text lines h = sym (join_with_byte-slice_split 10 text) ∙ ap (join_with_byte 10) h ∙ joined_lines lines

pub line_from_fields : (line : List ℕ) (fields : List (List ℕ)) → fields_of line ≡ fields → line ≡ line_of_fields fields
line_from_fields line fields h = sym (join_with_byte-slice_split 32 line) ∙ ap (join_with_byte 32) h

onto_some : (x : ℕ) (ps : List (List ℕ)) → onto_first x ps ≢ []
onto_some x [] h = absurd cc
onto_some x (p ∷ ps) h = absurd cc

some_cond : (b : Bool) (p q : List (List ℕ)) → (p ≡ [] → ⊥) → (q ≡ [] → ⊥) → cond b p q ≢ []
some_cond true p q f g h = f h
some_cond false p q f g h = g h

-- there is always a part
pub some_part : (mark : ℕ) (text : List ℕ) → parts_at mark text ≢ []
some_part mark [] h = absurd cc
some_part mark (c ∷ text) h = some_cond (eqb c mark) ([] ∷ parts_at mark text) (onto_first c (parts_at mark text)) (λ e. absurd cc) (onto_some c (parts_at mark text)) h

-- ---- what lacks a mark

pub Lacks-append : (mark : ℕ) (x y : List ℕ) → Lacks mark x → Lacks mark y → Lacks mark (x ++ y)
Lacks-append mark [] y h k = k
Lacks-append mark (c ∷ x) y h k = let p = or_parts (eqb c mark) (list_any (λ byte. eqb byte mark) x) h in rw p.0 (Lacks-append mark x y p.1 k)

digits_lack : (mark : ℕ) (ds : List ℕ) → mark < 48 → AllDigits 10 ds → Lacks mark ds
digits_lack mark [] h all = refl
digits_lack mark (c ∷ ds) h all =
    let d = digit_from_value c all.0 in
    rw (other_below c mark (omega arith)) (digits_lack mark ds h all.1)

pub Lacks-decimal : (mark n : ℕ) → mark < 48 → n < 2 ^ 64 → Lacks mark (decimal n)
Lacks-decimal mark n h lt = digits_lack mark (decimal n) h (decimal_is_IsNumeral n lt).0.1

high : (k : ℕ) → k < 16 → 47 < slice_index lower_digits k
high k lt = ltb-true 47 (slice_index lower_digits k) (agree_below_at (λ i. ltb 47 (slice_index lower_digits i)) (λ _. true) 16 k refl lt)

hex_lack : (mark k : ℕ) → 0 < mark → mark < 48 → eqb (slice_index lower_digits k) mark ≡ false
hex_lack mark k some h =
    elim (cases_lt k 16) [
      | inl lt ↦ other_below (slice_index lower_digits k) mark (let g = high k lt in omega arith)
      | inr le ↦ rw (get_or_past lower_digits k 0 le) (grind arith)
    ]

pub Lacks-encode_lower : (mark : ℕ) (bytes : List ℕ) → 0 < mark → mark < 48 → Lacks mark (encode_lower bytes)
unfolding encode_with
Lacks-encode_lower mark [] some h = refl
Lacks-encode_lower mark (b ∷ bytes) some h = rw (hex_lack mark (b / 16) some h, hex_lack mark (b % 16) some h) (Lacks-encode_lower mark bytes some h)

pub Lacks-value_text : (mark : ℕ) (bytes : List ℕ) → 0 < mark → mark < 48 → Lacks mark (value_text bytes)
Lacks-value_text mark bytes some h = rw (other_below 120 mark (omega arith)) (Lacks-encode_lower mark bytes some h)
