-- What stands in a list with one item, or in one of which an item was replaced.
use Rattle.std.proofs.Common.{◌≡◌, ℕ, zero, suc, List, [], ◌∷◌, get_or, ◌<◌, refl, sym, arith, inl, inr}
use Rattle.std.specs.declared.option.Option.TheVariants.{Some}
use Rattle.std.specs.Prelude.{◌⊎◌, slice_get, slice_set}

contains_one : {X : Type 0} (x y : X) (k : ℕ) → k < 1 → get_or (y ∷ []) k x ≡ x → x ≡ y
contains_one x y zero lt is = sym is
contains_one x y (suc k) lt is = absurd (omega arith)

-- an item stands there still, or it was the one that was replaced
pub still_there : {A : Type 0} (xs : List A) (k i : ℕ) (x y w : A) → slice_get xs k ≡ Some x → slice_get xs i ≡ Some w → ((w ≡ x) × (slice_get (slice_set xs k y) i ≡ Some y)) ⊎ (slice_get (slice_set xs k y) i ≡ Some w)
still_there [] k i x y w at there = absurd cc
still_there (z ∷ xs) zero zero x y w at there = let e : w ≡ x = cc in inl (e, refl)
still_there (z ∷ xs) zero (suc i) x y w at there = inr there
still_there (z ∷ xs) (suc k) zero x y w at there = inr there
still_there (z ∷ xs) (suc k) (suc i) x y w at there = still_there xs k i x y w at there
