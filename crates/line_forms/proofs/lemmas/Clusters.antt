-- What is wrong with a cluster line.
use Rattle.std.proofs.Common.{◌≡◌, ◌≢◌, ℕ, suc, eqb, ◌^◌, ◌<◌, ◌⊎◌, Bool, true, false, List, [], ◌∷◌, length, map, Option, Some, None, is_none, unwrap_or, refl, sym, ap, arith, inl, inr}
use Rattle.std.specs.Prelude.{codes, decimal}
use Rattle.std.specs.List.{list_any, AllByRecursion}
use Rattle.std.specs.Str.{bytes_eq}
use Rattle.std.proofs.Math.Bool.{or-true}
use Rattle.std.proofs.lemmas.Bool.Decides.{nat_tests}
use Rattle.quorum_rules.specs.Limits.{Numbers}
use Rattle.quorum_rules.specs.declared.Edition.{Edition}
use Rattle.text_lines.specs.Fields.{number_of}
use Rattle.text_lines.proofs.lemmas.Numbers.{number_of-some}
use Rattle.line_forms.specs.Kinds.{Kind, some_field, is_other_word, is_outside, is_bad_value, is_beyond, any_u32, has_empty_field, has_wrong_count}
use Rattle.line_forms.specs.Heads.{cluster_cause, cluster_fields, config_cause, numbers_at, u32_of, is_no_u32}
use Rattle.line_forms.specs.declared.cause.Cause.TheVariants.{UnknownWord, WrongCount, BadNumber}
use Rattle.std.proofs.lemmas.Bool.{or_parts}

-- a test that no kind of the form can pass holds of no field
pub some_field-never : (test : Kind → List ℕ → Bool) (form : List Kind) (fields : List (List ℕ)) → AllByRecursion (λ kind. (field : List ℕ) → test kind field ≡ false) form → some_field test form fields ≡ false
some_field-never test [] fields h = refl
some_field-never test (kind ∷ form) [] h = refl
some_field-never test (kind ∷ form) (field ∷ fields) h = rw (h.0 field) (some_field-never test form fields h.1)

-- a number of 32 bits may be any of them
beyond : (o : Option ℕ) → ((n : ℕ) → o ≡ Some n → n < 2 ^ 32) → is_beyond 0 (2 ^ 32) o ≡ false
beyond None h = refl
beyond (Some n) h = let lt : n < 2 ^ 32 = h n refl in grind (arith, nat_tests)

u32_inside : (field : List ℕ) → is_outside any_u32 field ≡ false
u32_inside field = beyond (number_of (2 ^ 32) field) (λ n e. (number_of-some (2 ^ 32) field n e).1)

abbrev seven : List Kind
seven = any_u32 ∷ any_u32 ∷ any_u32 ∷ any_u32 ∷ any_u32 ∷ any_u32 ∷ any_u32 ∷ []

no_word : (fields : List (List ℕ)) → some_field is_other_word seven fields ≡ false
no_word fields = some_field-never is_other_word seven fields ((λ f. refl), ((λ f. refl), ((λ f. refl), ((λ f. refl), ((λ f. refl), ((λ f. refl), ((λ f. refl), tt)))))))

none_outside : (fields : List (List ℕ)) → some_field is_outside seven fields ≡ false
none_outside fields = some_field-never is_outside seven fields (u32_inside, (u32_inside, (u32_inside, (u32_inside, (u32_inside, (u32_inside, (u32_inside, tt)))))))

no_value : (fields : List (List ℕ)) → some_field is_bad_value seven fields ≡ false
no_value fields = some_field-never is_bad_value seven fields ((λ f. refl), ((λ f. refl), ((λ f. refl), ((λ f. refl), ((λ f. refl), ((λ f. refl), ((λ f. refl), tt)))))))

pub other_word : (edition : Edition) (word : List ℕ) (fields : List (List ℕ)) → bytes_eq word (codes "cluster") ≡ false → cluster_cause edition (word ∷ fields) ≡ Some UnknownWord
other_word edition word fields e = rw e refl

other_count : (n : ℕ) → n ≢ 7 → eqb (suc n) 8 ≡ false
other_count n ne = grind arith

counted : (fields : List (List ℕ)) → (length fields ≢ 7) ⊎ (has_empty_field fields ≡ true) → has_wrong_count 8 (codes "cluster" ∷ fields) ≡ true
counted fields (inl ne) = rw (other_count (length fields) ne) refl
counted fields (inr e) = rw e (or-true _)

-- the fields after the word `cluster`, where they are not seven or one is empty
pub wrong_count : (edition : Edition) (word : List ℕ) (fields : List (List ℕ)) → word ≡ codes "cluster" → (length fields ≢ 7) ⊎ (has_empty_field fields ≡ true) → cluster_cause edition (word ∷ fields) ≡ Some WrongCount
wrong_count edition word fields is h = rw (is, no_word fields, counted fields h) refl

-- a number that a field spells has it as its text
spelled_back : (field : List ℕ) (o : Option ℕ) → number_of (2 ^ 32) field ≡ o → is_none o ≡ false → decimal (unwrap_or o 0) ≡ field
spelled_back field None e h = absurd cc
spelled_back field (Some n) e h = sym (number_of-some (2 ^ 32) field n e).0

all_back : (fields : List (List ℕ)) → list_any is_no_u32 fields ≡ false → map decimal (map u32_of fields) ≡ fields
all_back [] h = refl
all_back (f ∷ fields) h =
    let p = or_parts (is_no_u32 f) (list_any is_no_u32 fields) h in
    rw (spelled_back f (number_of (2 ^ 32) f) refl p.0, all_back fields p.1) refl

-- seven fields without an empty one, of which one is no number
pub bad_number : (edition : Edition) (word : List ℕ) (fields : List (List ℕ)) → word ≡ codes "cluster" → length fields ≡ 7 → has_empty_field fields ≡ false → list_any is_no_u32 fields ≡ true → cluster_cause edition (word ∷ fields) ≡ Some BadNumber
bad_number edition word (a ∷ b ∷ c ∷ d ∷ e ∷ f ∷ g ∷ []) is len full bad = rw (is, full, bad) refl
bad_number edition word _ is len full bad = absurd (omega arith)

-- seven numbers
pub record Spelled (edition : Edition) (word : List ℕ) (fields : List (List ℕ)) (c : Numbers) : Type 0 where
  pub cause : cluster_cause edition (word ∷ fields) ≡ config_cause c
  pub text : cluster_fields c ≡ word ∷ fields

pub cluster_spelled : (edition : Edition) (word : List ℕ) (fields : List (List ℕ)) (xs : List ℕ) → word ≡ codes "cluster" → length fields ≡ 7 → has_empty_field fields ≡ false → list_any is_no_u32 fields ≡ false → xs ≡ map u32_of fields → Spelled edition word fields (numbers_at edition xs)
cluster_spelled edition word (a ∷ b ∷ c ∷ d ∷ e ∷ f ∷ g ∷ []) xs is len full good read =
    let fields = a ∷ b ∷ c ∷ d ∷ e ∷ f ∷ g ∷ [] in
    rw read (record {
      cause = rw (is, full, good, none_outside fields) refl;
      text = rw is (ap (λ (fs : List (List ℕ)). codes "cluster" ∷ fs) (all_back fields good));
    })
cluster_spelled edition word _ xs is len full good read = absurd (omega arith)
