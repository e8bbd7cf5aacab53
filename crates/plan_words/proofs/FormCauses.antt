-- What is wrong with the fields of a line that has several forms.
use Rattle.std.proofs.Common.{◌≡◌, ℕ, ◌+◌, ◌^◌, ◌<◌, ◌≤◌, Bool, true, false, not, ◌&&◌, ltb, leb, List, [], ◌∷◌, length, get_or, Some, None, refl, arith, lit≤, inl, inr}
use Rattle.std.specs.Prelude.{codes, decimal, min}
use Rattle.std.specs.Borrow.{Bor}
use Rattle.std.specs.Str.{bytes_eq}
use Rattle.std.proofs.lemmas.Bool.{cases_Bool, or_parts}
use Rattle.std.proofs.lemmas.Bool.Decides.{nat_tests}
use Rattle.quorum_rules.specs.Limits.{Numbers}
use Rattle.text_lines.specs.Fields.{number_of}
use Rattle.text_lines.specs.Lines.{texts}
use Rattle.text_lines.proofs.lemmas.Numbers.{number_of-decimal}
use Rattle.line_forms.specs.Kinds as kinds
use Rattle.line_forms.specs.Kinds.{Kind, some_field, is_other_word, is_bad_number, is_outside, is_bad_value, has_wrong_count, form_cause, block, any_u64, count_to}
use Rattle.line_forms.specs.Kinds.Kind.{value}
use Rattle.line_forms.specs.Tables.{first_of}
use Rattle.line_forms.specs.declared.cause.Cause.TheVariants.{UnknownWord, WrongCount, BadNumber, OutOfRange, BadValue}
use Rattle.line_forms.proofs.lemmas.Clusters.{some_field-never}
use Rattle.event_lines.specs.Forms.{fields_cause}
use Rattle.plan_words.specs.Forms.{any_rule, field_at, number_at, node_form, sound_form, mix_form, flood_form, crash_node_form, crash_client_form}

-- the forms of a liar's line, where a flood's time is this
abbrev pub liar_forms : Numbers → ℕ → List (List Kind)
liar_forms c time = node_form c ∷ sound_form c ∷ mix_form c ∷ flood_form c time ∷ []

pub node_cause : (c : Numbers) (fields : List (List ℕ)) (time : ℕ) → fields_cause (liar_forms c time) (codes "node" ∷ fields) ≡ form_cause (node_form c) (codes "node" ∷ fields)
node_cause c fields time = elim (cases_Bool (some_field is_other_word (kinds.node c.n ∷ any_rule ∷ []) fields)) [ inl is ↦ rw is refl | inr none ↦ rw none refl ]

no_word_one : (c : Numbers) (most : ℕ) (fields : List (List ℕ)) → some_field is_other_word (block c.blocks ∷ any_u64 ∷ value c.size ∷ count_to most ∷ []) fields ≡ false
no_word_one c most fields = some_field-never is_other_word (block c.blocks ∷ any_u64 ∷ value c.size ∷ count_to most ∷ []) fields ((λ f. refl), ((λ f. refl), ((λ f. refl), ((λ f. refl), tt))))

no_word_two : (c : Numbers) (most : ℕ) (fields : List (List ℕ)) → some_field is_other_word (block c.blocks ∷ any_u64 ∷ value c.size ∷ value c.size ∷ count_to most ∷ []) fields ≡ false
no_word_two c most fields = some_field-never is_other_word (block c.blocks ∷ any_u64 ∷ value c.size ∷ value c.size ∷ count_to most ∷ []) fields ((λ f. refl), ((λ f. refl), ((λ f. refl), ((λ f. refl), ((λ f. refl), tt)))))

pub sound_cause : (c : Numbers) (fields : List (List ℕ)) (time : ℕ) → field_at 1 fields ≡ codes "sound" → fields_cause (liar_forms c time) (codes "client" ∷ fields) ≡ form_cause (sound_form c) (codes "client" ∷ fields)
sound_cause c [] time is = absurd cc
sound_cause c (client ∷ []) time is = absurd cc
sound_cause c (client ∷ kind ∷ fields) time is = rw (is, no_word_one c c.n fields) refl

pub mix_cause : (c : Numbers) (fields : List (List ℕ)) (time : ℕ) → field_at 1 fields ≡ codes "mix" → fields_cause (liar_forms c time) (codes "client" ∷ fields) ≡ form_cause (mix_form c) (codes "client" ∷ fields)
mix_cause c [] time is = absurd cc
mix_cause c (client ∷ []) time is = absurd cc
mix_cause c (client ∷ kind ∷ fields) time is = rw (is, no_word_two c c.n fields) refl

pub flood_cause : (c : Numbers) (fields : List (List ℕ)) (time : ℕ) → field_at 1 fields ≡ codes "flood" → fields_cause (liar_forms c time) (codes "client" ∷ fields) ≡ form_cause (flood_form c time) (codes "client" ∷ fields)
flood_cause c [] time is = absurd cc
flood_cause c (client ∷ []) time is = absurd cc
flood_cause c (client ∷ kind ∷ fields) time is = rw (is, no_word_two c (min 250 time) fields) refl

pub other_cause : (c : Numbers) (fields : List (List ℕ)) (time : ℕ) → 2 ≤ length fields → bytes_eq (field_at 1 fields) (codes "sound") ≡ false → bytes_eq (field_at 1 fields) (codes "mix") ≡ false → bytes_eq (field_at 1 fields) (codes "flood") ≡ false
    → fields_cause (liar_forms c time) (codes "client" ∷ fields) ≡ Some UnknownWord
other_cause c [] time two s m f = absurd (omega arith)
other_cause c (client ∷ []) time two s m f = absurd (omega arith)
other_cause c (client ∷ kind ∷ fields) time two s m f = rw (s, m, f) refl

-- where there is one form alone, no word can tell fields to be another's
pub one_form : (form : List Kind) (fields : List (List ℕ)) → fields_cause (form ∷ []) fields ≡ form_cause form fields
one_form form fields = elim (cases_Bool (some_field is_other_word form fields)) [ inl is ↦ rw is refl | inr none ↦ rw none refl ]

pub crash_node_cause : (c : Numbers) (fields : List (List ℕ)) → fields_cause (crash_node_form c ∷ crash_client_form ∷ []) (codes "node" ∷ fields) ≡ form_cause (crash_node_form c) (codes "node" ∷ fields)
crash_node_cause c fields = elim (cases_Bool (some_field is_other_word (kinds.node c.n ∷ count_to 1000 ∷ []) fields)) [ inl is ↦ rw is refl | inr none ↦ rw none refl ]

pub crash_client_cause : (c : Numbers) (fields : List (List ℕ)) → fields_cause (crash_node_form c ∷ crash_client_form ∷ []) (codes "client" ∷ fields) ≡ form_cause crash_client_form (codes "client" ∷ fields)
crash_client_cause c fields = elim (cases_Bool (some_field is_other_word (kinds.client ∷ count_to 1000 ∷ []) fields)) [ inl is ↦ rw is refl | inr none ↦ rw none refl ]

pub three_texts : (xs : List (Bor (List ℕ))) (d : Bor (List ℕ)) → length xs ≡ 3 → texts xs ≡ (get_or xs 0 d).now ∷ (get_or xs 1 d).now ∷ (get_or xs 2 d).now ∷ []
three_texts (a ∷ b ∷ c ∷ []) d len = refl
three_texts _ d len = absurd (omega arith)

-- ---- the numbers of a flood

-- nothing is wrong with fields of a form
pub record IsFine (form : List Kind) (fields : List (List ℕ)) : Type 0 where
  pub words : some_field is_other_word form fields ≡ false
  pub count : has_wrong_count (length form) fields ≡ false
  pub numbers : some_field is_bad_number form fields ≡ false
  pub inside : some_field is_outside form fields ≡ false
  pub values : some_field is_bad_value form fields ≡ false

none_of_five : (a b c d e : Bool) → first_of ((a, UnknownWord) ∷ (b, WrongCount) ∷ (c, BadNumber) ∷ (d, OutOfRange) ∷ (e, BadValue) ∷ []) ≡ None → (a ≡ false) × (b ≡ false) × (c ≡ false) × (d ≡ false) × (e ≡ false)
none_of_five true b c d e h = absurd cc
none_of_five false true c d e h = absurd cc
none_of_five false false true d e h = absurd cc
none_of_five false false false true e h = absurd cc
none_of_five false false false false true h = absurd cc
none_of_five false false false false false h = (refl, refl, refl, refl, refl)

pub fine_from_none : (form : List Kind) (fields : List (List ℕ)) → form_cause form fields ≡ None → IsFine form fields
fine_from_none form fields h =
    let p = none_of_five (some_field is_other_word form fields) (has_wrong_count (length form) fields) (some_field is_bad_number form fields) (some_field is_outside form fields) (some_field is_bad_value form fields) h in
    record { words = p.0; count = p.1; numbers = p.2; inside = p.3; values = p.4 }

abbrev forged : Numbers → ℕ → List Kind
forged c most = kinds.client ∷ block c.blocks ∷ any_u64 ∷ count_to most ∷ []

above : (t n : ℕ) → t < n → not (leb 0 n && ltb n (min 250 t + 1)) ≡ true
above t n lt = grind (arith, nat_tests)

within : (t n : ℕ) → n ≤ 250 → n ≤ t → not (leb 0 n && ltb n (min 250 t + 1)) ≡ false
within t n few le = grind (arith, nat_tests)

-- the parts of a flood's numbers, where the count is at most 250
record Parts (c : Numbers) (client place time count : List ℕ) (t n : ℕ) : Type 0 where
  counted : has_wrong_count 4 (client ∷ place ∷ time ∷ count ∷ []) ≡ false
  numbers : some_field is_bad_number (forged c 250) (client ∷ place ∷ time ∷ count ∷ []) ≡ false
  client_in : is_outside kinds.client client ≡ false
  block_in : is_outside (block c.blocks) place ≡ false
  time_in : is_outside any_u64 time ≡ false
  time_is : number_of (2 ^ 64) time ≡ Some t
  count_is : number_of (2 ^ 64) count ≡ Some n

parts : (c : Numbers) (client place time count : List ℕ) (t n : ℕ) → form_cause (forged c 250) (client ∷ place ∷ time ∷ count ∷ []) ≡ None → time ≡ decimal t → count ≡ decimal n → t < 2 ^ 64 → n < 2 ^ 64 → Parts c client place time count t n
parts c client place time count t n none time_is count_is t_small n_small =
    let h = fine_from_none (forged c 250) (client ∷ place ∷ time ∷ count ∷ []) none in
    let a = or_parts (is_outside kinds.client client) (some_field is_outside (block c.blocks ∷ any_u64 ∷ count_to 250 ∷ []) (place ∷ time ∷ count ∷ [])) h.inside in
    let b = or_parts (is_outside (block c.blocks) place) (some_field is_outside (any_u64 ∷ count_to 250 ∷ []) (time ∷ count ∷ [])) a.1 in
    let d = or_parts (is_outside any_u64 time) (some_field is_outside (count_to 250 ∷ []) (count ∷ [])) b.1 in
    record {
      counted = h.count;
      numbers = h.numbers;
      client_in = a.0;
      block_in = b.0;
      time_in = d.0;
      time_is = rw time_is (number_of-decimal (2 ^ 64) t (lit≤ tt) t_small);
      count_is = rw count_is (number_of-decimal (2 ^ 64) n (lit≤ tt) n_small);
    }

pub flood_above : (c : Numbers) (client place time count : List ℕ) (t n : ℕ) → form_cause (forged c 250) (client ∷ place ∷ time ∷ count ∷ []) ≡ None → time ≡ decimal t → count ≡ decimal n → t < 2 ^ 64 → n < 2 ^ 64 → t < n
    → form_cause (forged c (min 250 (number_at 0 (time ∷ [])))) (client ∷ place ∷ time ∷ count ∷ []) ≡ Some OutOfRange
flood_above c client place time count t n none time_is count_is t_small n_small lt =
    let p = parts c client place time count t n none time_is count_is t_small n_small in
    rw (p.counted, p.numbers, p.client_in, p.block_in, p.time_in, p.time_is, p.count_is, above t n lt) refl

pub flood_within : (c : Numbers) (client place time count : List ℕ) (t n : ℕ) → form_cause (forged c 250) (client ∷ place ∷ time ∷ count ∷ []) ≡ None → time ≡ decimal t → count ≡ decimal n → t < 2 ^ 64 → n ≤ 250 → n ≤ t
    → form_cause (forged c (min 250 (number_at 0 (time ∷ [])))) (client ∷ place ∷ time ∷ count ∷ []) ≡ None
flood_within c client place time count t n none time_is count_is t_small few le =
    let p = parts c client place time count t n none time_is count_is t_small (omega arith) in
    rw (p.counted, p.numbers, p.client_in, p.block_in, p.time_in, p.time_is, p.count_is, within t n few le) refl
