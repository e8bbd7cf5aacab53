-- What is wrong with an entry line, and the entry that it tells where nothing is.
use Rattle.std.proofs.Common.{◌≡◌, ℕ, Bool, true, false, eqb, List, [], ◌∷◌, length, Option, Some, None, refl, sym, ap, subst, ◌∙◌, arith}
use Rattle.std.specs.Prelude.{slice_get, is_none, not, option_map, IfSome}
use Rattle.std.specs.declared.cmp.Ordering.TheVariants.{Less}
use Rattle.text_lines.specs.Fields.{value_of}
use Rattle.text_lines.proofs.lemmas.Values.{value_of-some}
use Rattle.line_forms.specs.Kinds.{has_empty_field, has_wrong_count}
use Rattle.line_forms.specs.Tables.{first_of}
use Rattle.line_forms.specs.Texts.{is_empty}
use Rattle.line_forms.specs.declared.cause.Cause.{Cause}
use Rattle.line_forms.specs.declared.cause.Cause.TheVariants.{UnknownWord, WrongCount, BadNumber, OutOfRange, BadValue, NotSorted}
use Rattle.history_making.specs.declared.entry.Kind.{Kind}
use Rattle.history_making.specs.declared.entry.Entry.{Entry}
use Rattle.history_making.specs.declared.entry.Spent.{Spent}
use Rattle.history_book.specs.declared.numbers.Numbers.{Numbers}
use Rattle.history_book.specs.Reports.{entry_fields}
use Rattle.history_book.specs.ReportTexts.{◌>>=◌, kind_told, numbers_told, numbers_in, entry_told, entry_with, entry_causes, value_causes, has_other_kind, has_other_size, is_bad_value, is_zero_mark, is_not_above, stands_above, last_of, IsRightAfter, MayFollow, IsTold}
use Rattle.history_making.specs.Orders.{key_cmp}
use Rattle.history_book.proofs.Spelling.{kind_spelled, numbers_spelled}
use Rattle.lists.proofs.lemmas.Tests.{nonzero_positive}
use Rattle.lists.proofs.lemmas.Orders.{lt_less}
use Rattle.std.proofs.lemmas.Bool.{or_parts}

-- the table of an entry line's causes where the first three tests fail
three_passed : (a b c d : Bool) (more : List (Bool × Cause)) (x : Option Cause) → a ≡ false → b ≡ false → c ≡ false → first_of ((d, BadNumber) ∷ more) ≡ x
    → first_of ((a, UnknownWord) ∷ (b, UnknownWord) ∷ (c, WrongCount) ∷ (d, BadNumber) ∷ more) ≡ x
three_passed a b c d more x p q r h = rw (p, q, r) h

no_spent : (spent : List Spent) → spent ≡ [] → not (is_empty spent) ≡ false
no_spent [] h = refl
no_spent (x ∷ xs) h = absurd cc

-- seven fields whose third is the word of this kind, none of them empty
pub record Seven (entries : List Entry) (spent : List Spent) (kind : Kind) (b s w c st e v : List ℕ) : Type 0 where
  pub none : spent ≡ []
  pub word : kind_told w ≡ Some kind
  pub full : has_empty_field (b ∷ s ∷ w ∷ c ∷ st ∷ e ∷ v ∷ []) ≡ false

seven_causes : (entries : List Entry) (spent : List Spent) (kind : Kind) (b s w c st e v : List ℕ) (x : Option Cause) → Seven entries spent kind b s w c st e v
    → (let fields = b ∷ s ∷ w ∷ c ∷ st ∷ e ∷ v ∷ [] in
    first_of ((is_none (numbers_in fields), BadNumber) ∷ (is_zero_mark (numbers_in fields), OutOfRange) ∷ (is_bad_value entries (value_of v), BadValue) ∷ (is_not_above entries (entry_told fields), NotSorted) ∷ []) ≡ x)
    → first_of (entry_causes entries spent (b ∷ s ∷ w ∷ c ∷ st ∷ e ∷ v ∷ [])) ≡ x
seven_causes entries spent kind b s w c st e v x h g =
    let fields = b ∷ s ∷ w ∷ c ∷ st ∷ e ∷ v ∷ [] in
    three_passed (not (is_empty spent)) (has_other_kind fields) (has_wrong_count 7 fields) (is_none (numbers_in fields)) ((is_zero_mark (numbers_in fields), OutOfRange) ∷ (is_bad_value entries (value_of v), BadValue) ∷ (is_not_above entries (entry_told fields), NotSorted) ∷ []) x
    (no_spent spent h.none) (ap is_none h.word) h.full g

pub no_numbers : (entries : List Entry) (spent : List Spent) (kind : Kind) (b s w c st e v : List ℕ) → Seven entries spent kind b s w c st e v → numbers_told kind b s c st e ≡ None
    → first_of (entry_causes entries spent (b ∷ s ∷ w ∷ c ∷ st ∷ e ∷ v ∷ [])) ≡ Some BadNumber
no_numbers entries spent kind b s w c st e v h none =
    let is : numbers_in (b ∷ s ∷ w ∷ c ∷ st ∷ e ∷ v ∷ []) ≡ None = ap (λ (o : Option Kind). o >>= (λ k. numbers_told k b s c st e)) h.word ∙ none in
    seven_causes entries spent kind b s w c st e v (Some BadNumber) h (ap (λ (o : Option Numbers). first_of ((is_none o, BadNumber) ∷ (is_zero_mark o, OutOfRange) ∷ (is_bad_value entries (value_of v), BadValue) ∷ (is_not_above entries (entry_told (b ∷ s ∷ w ∷ c ∷ st ∷ e ∷ v ∷ [])), NotSorted) ∷ [])) is)

-- the entry of right numbers
pub told_entry : (kind : Kind) (b s w c st e v : List ℕ) (n : Numbers) → kind_told w ≡ Some kind → numbers_told kind b s c st e ≡ Some n → entry_told (b ∷ s ∷ w ∷ c ∷ st ∷ e ∷ v ∷ []) ≡ (value_of v >>= (λ x. Some (entry_with kind n x)))
told_entry kind b s w c st e v n word some =
    ap (λ (o : Option Kind). o >>= (λ k. numbers_told k b s c st e >>= (λ m. value_of v >>= (λ x. Some (entry_with k m x))))) word
    ∙ ap (λ (o : Option Numbers). o >>= (λ m. value_of v >>= (λ x. Some (entry_with kind m x)))) some

-- where the numbers are right the causes are those of the mark, the value and the place
pub with_numbers : (entries : List Entry) (spent : List Spent) (kind : Kind) (b s w c st e v : List ℕ) (n : Numbers) → Seven entries spent kind b s w c st e v → numbers_told kind b s c st e ≡ Some n
    → first_of (entry_causes entries spent (b ∷ s ∷ w ∷ c ∷ st ∷ e ∷ v ∷ [])) ≡ first_of (value_causes entries kind n (value_of v))
with_numbers entries spent kind b s w c st e v n h some =
    let fields = b ∷ s ∷ w ∷ c ∷ st ∷ e ∷ v ∷ [] in
    let is : numbers_in fields ≡ Some n = ap (λ (o : Option Kind). o >>= (λ k. numbers_told k b s c st e)) h.word ∙ some in
    let told = told_entry kind b s w c st e v n h.word some in
    let mapped : entry_told fields ≡ option_map (entry_with kind n) (value_of v) = told ∙ as_map (value_of v) (entry_with kind n) in
    seven_causes entries spent kind b s w c st e v _ h
    (ap (λ (o : Option Numbers). first_of ((is_none o, BadNumber) ∷ (is_zero_mark o, OutOfRange) ∷ (is_bad_value entries (value_of v), BadValue) ∷ (is_not_above entries (entry_told fields), NotSorted) ∷ [])) is
    ∙ ap (λ (o : Option Entry). first_of ((eqb n.stamp.mark 0, OutOfRange) ∷ (is_bad_value entries (value_of v), BadValue) ∷ (is_not_above entries o, NotSorted) ∷ [])) mapped)
  where
    as_map : (o : Option (List ℕ)) (f : List ℕ → Entry) → (o >>= (λ x. Some (f x))) ≡ option_map f o
    as_map None f = refl
    as_map (Some x) f = refl

-- ---- the entry that is told

above_less : (last : Option Entry) (e : Entry) → stands_above last e ≡ true → IfSome last (λ d. key_cmp d e ≡ Less)
above_less None e h = tt
above_less (Some d) e h = lt_less (key_cmp d e) h

same_size : (entries : List Entry) (value : List ℕ) → has_other_size entries value ≡ false → IfSome (slice_get entries 0) (λ first. length value ≡ length first.value)
same_size [] value h = tt
same_size (first ∷ more) value h = grind arith

pub follows : (entries : List Entry) (kind : Kind) (b s w c st e v : List ℕ) (n : Numbers) (x : Entry) → kind_told w ≡ Some kind → numbers_told kind b s c st e ≡ Some n
    → ((value : List ℕ) × (x ≡ entry_with kind n value) × (value_of v ≡ Some value) × IsRightAfter entries x) → (entry_fields x ≡ b ∷ s ∷ w ∷ c ∷ st ∷ e ∷ v ∷ []) × MayFollow entries x × (entry_told (b ∷ s ∷ w ∷ c ∷ st ∷ e ∷ v ∷ []) ≡ Some x)
follows entries kind b s w c st e v n x told some (value, is, spells, right) =
    let N = numbers_spelled kind b s c st e n some in
    let V = value_of-some v value spells in
    let parts = or_parts (eqb (length x.value) 0) (has_other_size entries x.value) right.value in
    let word = kind_spelled w kind told in
    let text : entry_fields (entry_with kind n value) ≡ b ∷ s ∷ w ∷ c ∷ st ∷ e ∷ v ∷ [] = rw (N.block, N.stamp.text, word, N.client, N.start, N.end, sym V.0) refl in
    let made : IsTold x = subst (λ (y : Entry). (eqb y.mark 0 ≡ false) → (eqb (length y.value) 0 ≡ false) → IsTold y) (sym is) (λ mark some_bytes. record {
      block = N.block_fits;
      time = N.stamp.time;
      writer = N.stamp.writer;
      mark = nonzero_positive n.stamp.mark mark;
      mark_fits = N.stamp.mark;
      client = N.client_fits;
      places = N.places;
      bytes = V.1;
      some_bytes = nonzero_positive (length value) some_bytes;
    }) right.mark parts.0 in (
      ap entry_fields is ∙ text,
      record { told = made; size = same_size entries x.value parts.1; above = above_less (last_of entries) x right.above },
      told_entry kind b s w c st e v n told some ∙ ap (λ (o : Option (List ℕ)). o >>= (λ y. Some (entry_with kind n y))) spells ∙ ap (λ (y : Entry). Some y) (sym is),
    )

-- ---- as slices
