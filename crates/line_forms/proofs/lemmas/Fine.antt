-- Fields with which nothing is wrong, and that a form takes them.
use Rattle.std.proofs.Common.{◌≡◌, lit≤, ℕ, suc, ◌^◌, ◌<◌, ◌≤◌, Bool, false, not, ◌&&◌, eqb, ltb, leb, List, [], ◌∷◌, length, None, refl, ap, arith}
use Rattle.std.specs.Prelude.{decimal}
use Rattle.std.proofs.lemmas.Fmt.{decimal_nonempty}
use Rattle.std.proofs.lemmas.Bool.{eq-eqb}
use Rattle.std.proofs.lemmas.Bool.Decides.{nat_tests}
use Rattle.lists.proofs.lemmas.Tests.{not_zero}
use Rattle.text_lines.specs.Fields.{value_text, IsBytes}
use Rattle.text_lines.proofs.lemmas.Numbers.{number_of-decimal}
use Rattle.text_lines.proofs.lemmas.Values.{value_of-text}
use Rattle.wire_forms.specs.Liars.{IsClientNumber}
use Rattle.line_forms.specs.Kinds.{Kind, client, any_u64, is_other_word, is_bad_number, is_outside, is_bad_value, some_field, has_empty_field, form_cause}
use Rattle.line_forms.specs.Kinds.Kind.{number, bytes}

-- nothing is wrong with a field of this kind
pub record Fine (kind : Kind) (field : List ℕ) : Type 0 where
  pub words : is_other_word kind field ≡ false
  pub full : eqb (length field) 0 ≡ false
  pub numbers : is_bad_number kind field ≡ false
  pub inside : is_outside kind field ≡ false
  pub values : is_bad_value kind field ≡ false

-- nothing is wrong with the fields of this form
abbrev pub AreFine : List Kind → List (List ℕ) → Type 0
AreFine [] [] = Unit {0}
AreFine (kind ∷ form) (field ∷ fields) = Fine kind field × AreFine form fields
AreFine _ _ = ⊥

-- a test that fine fields do not pass
pub none_passes : (test : Kind → List ℕ → Bool) → ((kind : Kind) (field : List ℕ) → Fine kind field → test kind field ≡ false) → (form : List Kind) (fields : List (List ℕ)) → AreFine form fields → some_field test form fields ≡ false
none_passes test never [] [] h = refl
none_passes test never [] (field ∷ fields) h = absurd h
none_passes test never (kind ∷ form) [] h = absurd h
none_passes test never (kind ∷ form) (field ∷ fields) h = rw (never kind field h.0) (none_passes test never form fields h.1)

pub length-fine : (form : List Kind) (fields : List (List ℕ)) → AreFine form fields → length fields ≡ length form
length-fine [] [] h = refl
length-fine [] (field ∷ fields) h = absurd h
length-fine (kind ∷ form) [] h = absurd h
length-fine (kind ∷ form) (field ∷ fields) h = ap (λ (n : ℕ). suc n) (length-fine form fields h.1)

pub none_empty : (form : List Kind) (fields : List (List ℕ)) → AreFine form fields → has_empty_field fields ≡ false
none_empty [] [] h = refl
none_empty [] (field ∷ fields) h = absurd h
none_empty (kind ∷ form) [] h = absurd h
none_empty (kind ∷ form) (field ∷ fields) h = rw (h.0.full) (none_empty form fields h.1)

pub form_cause-none : (form : List Kind) (fields : List (List ℕ)) → AreFine form fields → form_cause form fields ≡ None
form_cause-none form fields h =
    rw (
      none_passes is_other_word (λ kind field f. f.words) form fields h,
      eq-eqb (length fields) (length form) (length-fine form fields h),
      none_empty form fields h,
      none_passes is_bad_number (λ kind field f. f.numbers) form fields h,
      none_passes is_outside (λ kind field f. f.inside) form fields h,
      none_passes is_bad_value (λ kind field f. f.values) form fields h,
    ) refl

pub in_range : (from end n : ℕ) → from ≤ n → n < end → not (leb from n && ltb n end) ≡ false
in_range from end n a b = grind (arith, nat_tests)

pub Fine-number : (limit from end n : ℕ) → limit ≤ 2 ^ 64 → n < limit → from ≤ n → n < end → Fine (number limit from end) (decimal n)
Fine-number limit from end n small lt low high =
    let is = number_of-decimal limit n small lt in record {
      words = refl;
      full = not_zero (length (decimal n)) (decimal_nonempty n (omega arith));
      numbers = rw is refl;
      inside = rw is (in_range from end n low high);
      values = refl;
    }

pub Fine-client : (n : ℕ) → IsClientNumber n → Fine client (decimal n)
Fine-client n h = Fine-number (2 ^ 32) 1 1001 n (lit≤ tt) (omega arith) h.0 (omega arith)

pub Fine-u64 : (n : ℕ) → n < 2 ^ 64 → Fine any_u64 (decimal n)
Fine-u64 n h = Fine-number (2 ^ 64) 0 (2 ^ 64) n (lit≤ tt) h (omega arith) h

pub Fine-bytes : (v : List ℕ) → IsBytes v → Fine bytes (value_text v)
Fine-bytes v h = record {
  words = refl;
  full = not_zero (length (value_text v)) (omega arith);
  numbers = refl;
  inside = refl;
  values = rw (value_of-text v h) refl;
}
