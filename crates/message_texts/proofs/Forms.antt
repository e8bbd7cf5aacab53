-- How far a text begins a text of a form.
use Rattle.std.proofs.Common.{◌≡◌, ℕ, suc, ◌+◌, ◌^◌, ◌<◌, true, not, ◌&&◌, max, Bor, List, [], ◌∷◌, ◌++◌, length, take, drop, refl, sym, ap, subst, ◌∙◌, arith, inl, inr}
use Rattle.std.specs.Prelude.{decimal}
use Rattle.std.proofs.lemmas.Bool.{cases_lt, and_parts, ltb-true, false≢true}
use Rattle.text_lines.specs.Lines.{texts}
use Rattle.message_texts.specs.declared.piece.Piece.{Piece}
use Rattle.message_texts.specs.declared.piece.Piece.TheVariants.{Byte, Number, Digits}
use Rattle.message_texts.specs.Longest.{Begins, IsLongest}
use Rattle.message_texts.specs.Pieces.{is_low_digit, IsPiece, piece_of, IsForm, IsOfForms, ends_digits, has_no_digit_first, is_fillable, is_told_apart, is_sound, are_sound}
use Rattle.message_texts.proofs.Fronts.{after_whole, before_whole, nothing_follows, first_longer, second_longer, same_texts}
use Rattle.message_texts.proofs.Pieces.{low_in_number, low_in_digits, digits_begin}

-- ---- what follows digits

no_digit_in : (p : Piece) (c : ℕ) (r front rest : List ℕ) → ends_digits p ≡ true → c ∷ r ≡ front ++ rest → IsPiece p front → is_low_digit c ≡ true → ⊥
no_digit_in (Byte b) c r front rest ends cut is low =
    let whole : c ∷ r ≡ b ∷ rest = cut ∙ ap (λ (x : List ℕ). x ++ rest) is in
    let same : c ≡ b = cc in
    let other : not (is_low_digit c) ≡ true = ap (λ (x : ℕ). not (is_low_digit x)) same ∙ ends in
    let both : not true ≡ true = ap not (sym low) ∙ other in false≢true both
no_digit_in (Number most) c r front rest ends cut is low = false≢true ends
no_digit_in (Digits group least most) c r front rest ends cut is low = false≢true ends

no_digit_first : (form : List ℕ) (c : ℕ) (r : List ℕ) → has_no_digit_first form ≡ true → IsForm form (c ∷ r) → is_low_digit c ≡ true → ⊥
no_digit_first [] c r ends is low = let clash : c ∷ r ≡ [] = is in absurd cc
no_digit_first (letter ∷ form) c r ends is low = no_digit_in (piece_of letter) c r is.0 is.1 ends is.2 is.3 low

byte_apart : (b : ℕ) (x d : List ℕ) (c : ℕ) (vs : List ℕ) → Begins (IsPiece (Byte b)) x → IsPiece (Byte b) d → x ≡ d ++ c ∷ vs → ⊥
byte_apart b x d c vs h is e =
    let two : x ≡ b ∷ c ∷ vs = e ∙ ap (λ (y : List ℕ). y ++ c ∷ vs) is in
    let clash : b ∷ c ∷ (vs ++ h.0) ≡ b ∷ [] = ap (λ (y : List ℕ). y ++ h.0) (sym two) ∙ h.1 in absurd cc

told : (p : Piece) (form x : List ℕ) → is_fillable p ≡ true → is_told_apart p form ≡ true → Begins (IsPiece p) x
    → (d : List ℕ) (c : ℕ) (vs r : List ℕ) → IsPiece p d → x ≡ d ++ c ∷ vs → IsForm form (c ∷ r) → ⊥
told (Byte b) form x can apart h d c vs r is e more = byte_apart b x d c vs h is e
told (Number most) form x can apart h d c vs r is e more =
    no_digit_first form c r apart more (low_in_number most d c vs (ltb-true most (2 ^ 64) can) (subst (Begins (IsPiece (Number most))) e h))
told (Digits group least most) form x can apart h d c vs r is e more =
    no_digit_first form c r apart more (low_in_digits group least most d c vs (subst (Begins (IsPiece (Digits group least most))) e h))

-- ---- each form has a text

some_piece : (p : Piece) → is_fillable p ≡ true → (x : List ℕ) × IsPiece p x
some_piece (Byte b) can = (b ∷ [], refl)
some_piece (Number most) can = (decimal 0, (0, omega arith, refl))
some_piece (Digits group least most) can = digits_begin group least most [] can (λ k d lt. absurd (omega arith)) (omega arith)

pub record Sound (letter : ℕ) (form : List ℕ) : Type 0 where
  pub can : is_fillable (piece_of letter) ≡ true
  pub apart : is_told_apart (piece_of letter) form ≡ true
  pub rest : is_sound form ≡ true

pub sound_parts : (letter : ℕ) (form : List ℕ) → is_sound (letter ∷ form) ≡ true → Sound letter form
sound_parts letter form h =
    let outer = and_parts (is_fillable (piece_of letter) && is_told_apart (piece_of letter) form) (is_sound form) h in
    let inner = and_parts (is_fillable (piece_of letter)) (is_told_apart (piece_of letter) form) outer.0 in
    record { can = inner.0; apart = inner.1; rest = outer.1 }

some_text : (form : List ℕ) → is_sound form ≡ true → (x : List ℕ) × IsForm form x
some_text [] h = ([], refl)
some_text (letter ∷ form) h =
    let s = sound_parts letter form h in
    let p = some_piece (piece_of letter) s.can in
    let more = some_text form s.rest in
    (p.0 ++ more.0, (p.0, more.0, refl, p.1, more.1))

-- ---- a form

pub form_after : (letter : ℕ) (form t : List ℕ) (a k : ℕ) → is_sound (letter ∷ form) ≡ true → IsLongest (IsPiece (piece_of letter)) t a → IsPiece (piece_of letter) (take a t)
    → IsLongest (IsForm form) (drop a t) k → IsLongest (IsForm (letter ∷ form)) t (a + k)
form_after letter form t a k h first whole second =
    let s = sound_parts letter form h in
    after_whole (IsPiece (piece_of letter)) (IsForm form) t a first (λ d c vs r. told (piece_of letter) form (take a t) s.can s.apart first.begins d c vs r) whole k second

pub form_before : (letter : ℕ) (form t : List ℕ) (a : ℕ) → is_sound (letter ∷ form) ≡ true → IsLongest (IsPiece (piece_of letter)) t a → (IsPiece (piece_of letter) (take a t) → ⊥) → IsLongest (IsForm (letter ∷ form)) t a
form_before letter form t a h first part =
    let s = sound_parts letter form h in
    let q = some_text form s.rest in
    before_whole (IsPiece (piece_of letter)) (IsForm form) t a first (λ d c vs r. told (piece_of letter) form (take a t) s.can s.apart first.begins d c vs r) part q.0 q.1

pub form_end : (t : List ℕ) → IsLongest (IsForm []) t 0
form_end t = nothing_follows t

-- ---- forms

pub sound_forms : (form : List ℕ) (forms : List (List ℕ)) → are_sound (form ∷ forms) ≡ true → (is_sound form ≡ true) × (are_sound forms ≡ true)
sound_forms form forms h = and_parts (is_sound form) (are_sound forms) h

-- the form alone
pub one_form : (form t : List ℕ) (i : ℕ) → IsLongest (IsForm form) t i → IsLongest (IsOfForms (form ∷ [])) t i
one_form form t i h = same_texts (IsForm form) (IsOfForms (form ∷ [])) t i (λ x is. inl is) (λ x is. elim is [ inl f ↦ f | inr never ↦ absurd never ]) h

pub more_forms : (form : List ℕ) (forms : List (List ℕ)) (t : List ℕ) (i j : ℕ) → IsLongest (IsForm form) t i → IsLongest (IsOfForms forms) t j → IsLongest (IsOfForms (form ∷ forms)) t (max i j)
more_forms form forms t i j a b =
    elim (cases_lt i j) [
      | inl lt ↦ let m : max i j ≡ j = omega arith in subst (IsLongest (IsOfForms (form ∷ forms)) t) (sym m) (second_longer (IsForm form) (IsOfForms forms) t i j (omega arith) a b)
      | inr le ↦ let m : max i j ≡ i = omega arith in subst (IsLongest (IsOfForms (form ∷ forms)) t) (sym m) (first_longer (IsForm form) (IsOfForms forms) t i j le a b)
    ]

length-texts : (forms : List (Bor (List ℕ))) → length (texts forms) ≡ length forms
length-texts [] = refl
length-texts (f ∷ forms) = ap suc (length-texts forms)

pub furthest_of : (form : List ℕ) (forms : List (Bor (List ℕ))) (t : List ℕ) (i j : ℕ) → IsLongest (IsForm form) t i → (0 < length forms → IsLongest (IsOfForms (texts forms)) t j) → (length forms ≡ 0 → j ≡ 0)
    → IsLongest (IsOfForms (form ∷ texts forms)) t (max i j)
furthest_of form [] t i j a some none =
    let zero_is : j ≡ 0 = none refl in
    let m : max i j ≡ i = omega arith in
    subst (IsLongest (IsOfForms (form ∷ [])) t) (sym m) (one_form form t i a)
furthest_of form (f ∷ forms) t i j a some none = more_forms form (texts (f ∷ forms)) t i j a (some (omega arith))
