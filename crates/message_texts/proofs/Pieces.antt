-- Fronts of the pieces of forms.
use Rattle.std.proofs.Common.{◌≡◌, ◌↔◌, lit≤, ℕ, ◌+◌, ◌-◌, ◌%◌, ◌^◌, ◌≤◌, ◌<◌, Bool, true, false, not, ◌&&◌, leb, ltb, eqb, List, [], ◌∷◌, ◌++◌, length, take, replicate, get_or, Some, None, refl, sym, ap, subst, ◌∙◌, append_assoc, arith, inl, inr}
use Rattle.std.specs.Prelude.{decimal, IsTrue}
use Rattle.std.specs.List.{AllPass}
use Rattle.std.specs.Str.Parse.{digits_value, AllDigits}
use Rattle.std.proofs.lemmas.Bool.{cases_eq, ltb-true, leb-true, eqb-true, and_parts, both_ways, false≢true}
use Rattle.std.proofs.lemmas.List.{length-append, length-take-le, length-replicate, take_at, take_more, append-nil}
use Rattle.std.proofs.lemmas.List.Elements.{All-head, All-tail, All-append, All-replicate, All-nil, All-cons, All-more}
use Rattle.std.proofs.lemmas.Fmt.{decimal_is_IsNumeral, decimal-digits_value, first_decimal, decimal_digit}
use Rattle.std.proofs.lemmas.Str.Parse.{digits_value-take-le, digit_from_value}
use Rattle.text_lines.specs.Fields.{number_of}
use Rattle.text_lines.proofs.lemmas.Numbers.{IsNumeralModel-decimal, number_of-some, number_of-decimal}
use Rattle.message_texts.specs.declared.piece.Piece.TheVariants.{Byte, Number, Digits}
use Rattle.message_texts.specs.Longest.{Begins, IsLongest}
use Rattle.message_texts.specs.Pieces.{is_low_digit, IsPiece, is_fillable}

-- ---- numbers

pub number_is : (most n : ℕ) (field : List ℕ) → most < 2 ^ 64 → number_of (2 ^ 64) field ≡ Some n → (n ≤ most) ↔ IsPiece (Number most) field
number_is most n field fits e =
    let h = number_of-some (2 ^ 64) field n e in (
      (λ le. (n, le, h.0)),
      λ p.
          let again : number_of (2 ^ 64) field ≡ Some p.0 = ap (number_of (2 ^ 64)) p.2 ∙ number_of-decimal (2 ^ 64) p.0 (lit≤ tt) (let q = p.1 in omega arith) in
          let both : Some n ≡ Some p.0 = sym e ∙ again in
          let same : n ≡ p.0 = cc in let q = p.1 in omega arith,
    )

pub number_is_not : (most : ℕ) (field : List ℕ) → most < 2 ^ 64 → number_of (2 ^ 64) field ≡ None → IsPiece (Number most) field → ⊥
number_is_not most field fits e p =
    let again : number_of (2 ^ 64) field ≡ Some p.0 = ap (number_of (2 ^ 64)) p.2 ∙ number_of-decimal (2 ^ 64) p.0 (lit≤ tt) (let q = p.1 in omega arith) in
    let clash : None ≡ Some p.0 = sym e ∙ again in cc

front_digits : (p v : List ℕ) → AllDigits 10 (p ++ v) → AllDigits 10 p
front_digits [] v h = tt
front_digits (c ∷ p) v h = (h.0, front_digits p v h.1)

pub digit_in : (p : List ℕ) (c : ℕ) (v : List ℕ) → AllDigits 10 (p ++ c ∷ v) → (48 ≤ c) × (c ≤ 57)
digit_in [] c v h = let d = digit_from_value c h.0 in (omega arith, omega arith)
digit_in (b ∷ p) c v h = digit_in p c v h.1

-- a front of a number's text is the text of a number, which is no greater
front_number : (m : ℕ) (p v : List ℕ) → m < 2 ^ 64 → decimal m ≡ p ++ v → 0 < length p → (q : ℕ) × (q ≤ m) × (p ≡ decimal q)
front_number m p v lt e some =
    let numeral = decimal_is_IsNumeral m lt in
    let digits : AllDigits 10 p = front_digits p v (subst (AllDigits 10) e numeral.0.1) in
    let le = digits_value-take-le 10 (decimal m) (length p) (omega arith) in
    let front : take (length p) (decimal m) ≡ p = ap (take (length p)) e ∙ take_at p v (length p) refl in
    let value : digits_value 10 p ≤ m = omega (arith, ap (digits_value 10) front, le, numeral.1) in
    let first : get_or p 0 0 ≡ get_or (decimal m) 0 0 = sym (at_front p v some) ∙ ap (λ (x : List ℕ). get_or x 0 0) (sym e) in
    let alone : get_or p 0 0 ≡ 48 → length p ≡ 1 = λ z. elim (cases_eq m 0) [
      | inl zero_is ↦
          let one : length (decimal m) ≡ 1 = ap (λ (n : ℕ). length (decimal n)) zero_is ∙ ap length (decimal_digit 0 (omega arith)) in
          let len = ap length e in
          let sum = length-append p v in omega arith
      | inr positive ↦ let above = first_decimal m (omega arith) lt in absurd (omega arith)
    ] in
    let same : decimal (digits_value 10 p) ≡ p = decimal-digits_value IsNumeralModel-decimal p digits some alone (omega arith) in
    (digits_value 10 p, value, sym same)
  where
    at_front : (x y : List ℕ) → 0 < length x → get_or (x ++ y) 0 0 ≡ get_or x 0 0
    at_front [] y h = absurd (omega arith)
    at_front (c ∷ x) y h = refl

-- what begins a number up to a limit, and has a byte, is such a number
pub number_front_is : (most : ℕ) (p : List ℕ) → most < 2 ^ 64 → Begins (IsPiece (Number most)) p → 0 < length p → IsPiece (Number most) p
number_front_is most p fits b some =
    let le = b.1.1 in
    let f = front_number b.1.0 p b.0 (omega arith) (sym b.1.2) some in
    let q = f.1 in (f.0, omega arith, f.2)

-- nothing begins a number
pub number_begins : (most : ℕ) → Begins (IsPiece (Number most)) []
number_begins most = (decimal 0, (0, omega arith, refl))

pub number_begun : (most : ℕ) (p : List ℕ) → IsPiece (Number most) p → Begins (IsPiece (Number most)) p
number_begun most p h = ([], (h.0, h.1, append-nil p ∙ h.2))

pub number_longest : (most : ℕ) (t : List ℕ) (k : ℕ) → most < 2 ^ 64 → k ≤ length t → Begins (IsPiece (Number most)) (take k t) → (k < length t → IsPiece (Number most) (take (k + 1) t) → ⊥) → IsLongest (IsPiece (Number most)) t k
number_longest most t k fits within begins never = record {
  within = within;
  begins = begins;
  most = λ lt more. never lt (number_front_is most (take (k + 1) t) fits more (let n = length-take-le (k + 1) t (omega arith) in omega (arith, n)));
}

-- ---- digits

pub low_at : (d : List ℕ) (c : ℕ) (v : List ℕ) → AllPass is_low_digit (d ++ c ∷ v) → is_low_digit c ≡ true
low_at [] c v h = All-head (λ (x : ℕ). is_low_digit x ≡ true) c v h
low_at (b ∷ d) c v h = low_at d c v (All-tail (λ (x : ℕ). is_low_digit x ≡ true) b (d ++ c ∷ v) h)

decimal_is_low : (c : ℕ) → 48 ≤ c → c ≤ 57 → is_low_digit c ≡ true
decimal_is_low c a b = grind arith

pub low_in_number : (most : ℕ) (d : List ℕ) (c : ℕ) (v : List ℕ) → most < 2 ^ 64 → Begins (IsPiece (Number most)) (d ++ c ∷ v) → is_low_digit c ≡ true
low_in_number most d c v fits b =
    let le = b.1.1 in
    let digits : AllDigits 10 (d ++ c ∷ (v ++ b.0)) = subst (AllDigits 10) (sym b.1.2 ∙ append_assoc d (c ∷ v) b.0) (decimal_is_IsNumeral b.1.0 (omega arith)).0.1 in
    let h = digit_in d c (v ++ b.0) digits in decimal_is_low c h.0 h.1

pub low_in_digits : (group least most : ℕ) (d : List ℕ) (c : ℕ) (v : List ℕ) → Begins (IsPiece (Digits group least most)) (d ++ c ∷ v) → is_low_digit c ≡ true
low_in_digits group least most d c v b = low_at d c (v ++ b.0) (subst (AllPass is_low_digit) (append_assoc d (c ∷ v) b.0) b.1.0)

pub record CanBeFilled (group least most : ℕ) : Type 0 where
  pub some : 0 < group
  pub room : least ≤ most
  pub whole : most % group ≡ 0

pub filled : (group least most : ℕ) → is_fillable (Digits group least most) ≡ true → CanBeFilled group least most
filled group least most h =
    let outer = and_parts (ltb 0 group && leb least most) (eqb (most % group) 0) h in
    let inner = and_parts (ltb 0 group) (leb least most) outer.0 in
    record { some = ltb-true 0 group inner.0; room = leb-true least most inner.1; whole = eqb-true (most % group) 0 outer.1 }

-- low digits, no more than the most, go on to as many as there may be
pub digits_begin : (group least most : ℕ) (x : List ℕ) → is_fillable (Digits group least most) ≡ true → AllPass is_low_digit x → length x ≤ most → Begins (IsPiece (Digits group least most)) x
digits_begin group least most x can low few =
    let f = filled group least most can in
    let rest : List ℕ = replicate (most - length x) 48 in
    let lr : length rest ≡ most - length x = length-replicate (most - length x) 48 in
    let long : length (x ++ rest) ≡ most = length-append x rest ∙ omega (arith, few, lr) in
    let room = f.room in (
      rest,
      (
        All-append (λ (c : ℕ). is_low_digit c ≡ true) x rest low (All-replicate (λ (c : ℕ). is_low_digit c ≡ true) (most - length x) 48 refl),
        omega (arith, long, room),
        omega (arith, long),
        ap (λ (n : ℕ). n % group) long ∙ f.whole,
      ),
    )

pub digits_longest : (group least most : ℕ) (t : List ℕ) (k : ℕ) → is_fillable (Digits group least most) ≡ true → k ≤ length t → k ≤ most → AllPass is_low_digit (take k t)
    → (k < most → k < length t → is_low_digit (get_or t k 0) ≡ false) → IsLongest (IsPiece (Digits group least most)) t k
digits_longest group least most t k can within few low stop = record {
  within = within;
  begins = digits_begin group least most (take k t) can low (let n = length-take-le k t within in omega (arith, n));
  most = λ lt more.
      let n = length-take-le (k + 1) t (omega arith) in
      let s = length-append (take (k + 1) t) more.0 in
      let m = more.1.2 in
      let here : k < most = omega (arith, n, s, m) in
      let shown : take (k + 1) t ≡ take k t ++ get_or t k 0 ∷ [] = take_more t k 0 lt in
      let low_next = low_in_digits group least most (take k t) (get_or t k 0) [] (subst (Begins (IsPiece (Digits group least most))) shown more) in
      both_ways (is_low_digit (get_or t k 0)) (stop here lt) low_next;
}

-- ---- whole pieces

pub byte_whole : (b : ℕ) (x : List ℕ) → Begins (IsPiece (Byte b)) x → ((x ≡ []) → ⊥) → IsPiece (Byte b) x
byte_whole b [] h some = absurd (some refl)
byte_whole b (c ∷ []) h some = let e : c ∷ h.0 ≡ b ∷ [] = h.1 in cc
byte_whole b (c ∷ d ∷ x) h some = let e : c ∷ d ∷ (x ++ h.0) ≡ b ∷ [] = h.1 in absurd cc

pub byte_some : (b : ℕ) (x : List ℕ) → IsPiece (Byte b) x → x ≡ [] → ⊥
byte_some b x h e = let clash : [] ≡ b ∷ [] = sym e ∙ h in cc

low_front : (x z : List ℕ) → AllPass is_low_digit (x ++ z) → AllPass is_low_digit x
low_front [] z h = All-nil (λ (c : ℕ). is_low_digit c ≡ true)
low_front (c ∷ x) z h =
    All-cons (λ (d : ℕ). is_low_digit d ≡ true) c x (All-head (λ (d : ℕ). is_low_digit d ≡ true) c (x ++ z) h) (low_front x z (All-tail (λ (d : ℕ). is_low_digit d ≡ true) c (x ++ z) h))

pub digits_whole : (group least most : ℕ) (x : List ℕ) → Begins (IsPiece (Digits group least most)) x → least ≤ length x → length x % group ≡ 0 → IsPiece (Digits group least most) x
digits_whole group least most x b enough even =
    let few = b.1.2 in
    let n = length-append x b.0 in
    (low_front x b.0 b.1.0, enough, omega (arith, n, few), even)

pub byte_test : (b : ℕ) (x : List ℕ) (r : Bool) → Begins (IsPiece (Byte b)) x → r ≡ eqb (length x) 0 → IsTrue (not r) ↔ IsPiece (Byte b) x
byte_test b [] r h e = (λ t. absurd (let f : false ≡ true = rw e at t in false≢true f), λ p. absurd (byte_some b [] p refl))
byte_test b (c ∷ x) r h e =
    let z : eqb (length (c ∷ x)) 0 ≡ false = grind arith in
    let filled : not r ≡ true = rw (e, z) refl in
    ((λ t. byte_whole b (c ∷ x) h (λ z. let clash : c ∷ x ≡ [] = z in cc)), λ p. filled)

pub digits_test : (group least most : ℕ) (x : List ℕ) → Begins (IsPiece (Digits group least most)) x → least ≤ length x → IsTrue (eqb (length x % group) 0) ↔ IsPiece (Digits group least most) x
digits_test group least most x h enough =
    (λ t. digits_whole group least most x h enough (eqb-true (length x % group) 0 t), λ p. let z = p.3 in grind arith)

pub low_more : (t : List ℕ) (k : ℕ) → k < length t → AllPass is_low_digit (take k t) → is_low_digit (get_or t k 0) ≡ true → AllPass is_low_digit (take (k + 1) t)
low_more t k lt low one = All-more (λ (c : ℕ). is_low_digit c ≡ true) t k 0 lt low one
