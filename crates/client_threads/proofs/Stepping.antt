-- A list that a loop changes item by item.
use Rattle.std.proofs.Common.{◌≡◌, ℕ, suc, ◌≤◌, List, [], ◌∷◌, length, set, refl, sym, ap, subst, arith}
use Rattle.std.specs.Prelude.{slice_get}
use Rattle.std.specs.declared.option.Option.TheVariants.{Some}
use Rattle.std.specs.List.{AllZip}

-- the items before the place were changed so, and the others are as they were
pub data Partly {X : Type 0} (R : X → X → Type 0) : List X → List X → ℕ → Type 0 where
  Same : (xs : List X) → Partly R xs xs 0
  Done : (x y : X) (xs ys : List X) (i : ℕ) → R x y → Partly R xs ys i → Partly R (x ∷ xs) (y ∷ ys) (suc i)

pub partly_more : {X : Type 0} (R : X → X → Type 0) (xs ys : List X) (i : ℕ) (x y : X) → Partly R xs ys i → slice_get ys i ≡ Some x → R x y → Partly R xs (set ys i y) (suc i)
partly_more R xs ys i x y (Same []) at r = absurd (cc)
partly_more R xs ys i x y (Same (a ∷ more)) at r = (let same : a ≡ x = cc in Done a y more more 0 (subst (λ z. R z y) (sym same) r) (Same more))
partly_more R xs ys i x y (Done a b more rest j s p) at r = Done a b more (set rest j y) (suc j) s (partly_more R more rest j x y p at r)

pub partly_all : {X : Type 0} (R : X → X → Type 0) (xs ys : List X) (i : ℕ) → Partly R xs ys i → length xs ≤ i → AllZip R xs ys
partly_all R xs ys i (Same []) l = tt
partly_all R xs ys i (Same (a ∷ more)) l = absurd (omega arith)
partly_all R xs ys i (Done a b more rest j s p) l = (s, partly_all R more rest j p (omega (arith, l)))

pub partly_stays : {X : Type 0} (R : X → X → Type 0) → ((x : X) → R x x) → (xs ys : List X) (i : ℕ) → Partly R xs ys i → AllZip R xs ys
partly_stays R h xs ys i (Same []) = tt
partly_stays R h xs ys i (Same (a ∷ more)) = (h a, partly_stays R h more more 0 (Same more))
partly_stays R h xs ys i (Done a b more rest j s p) = (s, partly_stays R h more rest j p)

pub partly_old : {X : Type 0} (R : X → X → Type 0) (xs ys : List X) (i : ℕ) (x : X) → Partly R xs ys i → slice_get ys i ≡ Some x → slice_get xs i ≡ Some x
partly_old R xs ys i x (Same more) at = at
partly_old R xs ys i x (Done a b more rest j s p) at = partly_old R more rest j x p at

pub partly_long : {X : Type 0} (R : X → X → Type 0) (xs ys : List X) (i : ℕ) → Partly R xs ys i → length ys ≡ length xs
partly_long R xs ys i (Same more) = refl
partly_long R xs ys i (Done a b more rest j s p) = ap suc (partly_long R more rest j p)
