-- Items of a list by their numbers, when one is replaced or added.
use Rattle.std.proofs.Common.{◌≡◌, ◌⊎◌, ℕ, zero, suc, ◌<◌, List, [], ◌∷◌, ◌++◌, length, get_or, refl, sym, ◌∙◌, ap, inl, inr, arith}
use Rattle.std.specs.Prelude.{slice_get, slice_set}
use Rattle.std.specs.declared.option.Option.TheVariants.{Some}
use Rattle.std.proofs.lemmas.Bool.Decides.{eqb_tells}
use Rattle.std.proofs.lemmas.List.{length-set, get_or-set_same, get_or-set_other}
use Rattle.std.proofs.lemmas.Option.{slice_get_within, slice_get-get_or, get_or_from_slice_get}

module _ {A : Type 0} (xs : List A) where
  -- what has a number when x has number i: x, or what had it before
  pub slice_get-set_cases : (i : ℕ) (x : A) (k : ℕ) (y : A) → slice_get (slice_set xs i x) k ≡ Some y → ((k ≡ i) × (y ≡ x)) ⊎ ((k ≡ i → ⊥) × (slice_get xs k ≡ Some y))
  slice_get-set_cases i x k y e =
      let l : k < length (slice_set xs i x) = slice_get_within (slice_set xs i x) k y e in
      let m : k < length xs = (let n = length-set xs i x in omega (arith, l, n)) in
      let g : get_or (slice_set xs i x) k y ≡ y = get_or_from_slice_get (slice_set xs i x) k y y e in
      elim (eqb_tells k i) [
        | inl h ↦ inl (h.1, sym g ∙ rw h.1 (get_or-set_same xs i x y (let q = h.1 in omega (arith, m, q))))
        | inr h ↦ inr (h.1, slice_get-get_or xs k y m ∙ ap Some (sym (get_or-set_other xs i k x y h.1) ∙ g))
      ]

  pub slice_get-set_same : (i : ℕ) (x : A) → i < length xs → slice_get (slice_set xs i x) i ≡ Some x
  slice_get-set_same i x l =
      slice_get-get_or (slice_set xs i x) i x (let n = length-set xs i x in omega (arith, l, n)) ∙ ap Some (get_or-set_same xs i x x l)

  pub slice_get-set_other : (i : ℕ) (x : A) (k : ℕ) (y : A) → (k ≡ i → ⊥) → slice_get xs k ≡ Some y → slice_get (slice_set xs i x) k ≡ Some y
  slice_get-set_other i x k y ne e =
      let l : k < length xs = slice_get_within xs k y e in
      slice_get-get_or (slice_set xs i x) k y (let n = length-set xs i x in omega (arith, l, n))
      ∙ ap Some (get_or-set_other xs i k x y ne ∙ get_or_from_slice_get xs k y y e)

pub slice_get-push_cases : {A : Type 0} (xs : List A) (x : A) (k : ℕ) (y : A) → slice_get (xs ++ x ∷ []) k ≡ Some y → ((k ≡ length xs) × (y ≡ x)) ⊎ (slice_get xs k ≡ Some y)
slice_get-push_cases [] x zero y e = inl (refl, cc)
slice_get-push_cases [] x (suc k) y e = absurd (cc)
slice_get-push_cases (z ∷ zs) x zero y e = inr e
slice_get-push_cases (z ∷ zs) x (suc k) y e = elim (slice_get-push_cases zs x k y e) [ inl h ↦ inl (ap suc h.0, h.1) | inr h ↦ inr h ]
