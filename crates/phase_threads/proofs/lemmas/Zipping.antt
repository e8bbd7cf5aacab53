-- Lists side by side, item by item.
use Rattle.std.proofs.Common.{◌≡◌, ℕ, zero, suc, List, [], ◌∷◌, length, refl, ap, subst}
use Rattle.std.specs.declared.option.Option.TheVariants.{Some}
use Rattle.std.specs.Prelude.{slice_get}
use Rattle.std.specs.List.{AllZip}
use Rattle.thread_work.specs.Pairwise.{Beside}

module _ {X Y : Type 0} (R : X → Y → Type 0) where
  zip_count : (xs : List X) (ys : List Y) → AllZip R xs ys → length xs ≡ length ys
  zip_count [] [] z = refl
  zip_count [] (y ∷ ys) z = absurd z
  zip_count (x ∷ xs) [] z = absurd z
  zip_count (x ∷ xs) (y ∷ ys) z = ap suc (zip_count xs ys z.1)

  zip_at : (xs : List X) (ys : List Y) → AllZip R xs ys → (i : ℕ) (x : X) (y : Y) → slice_get xs i ≡ Some x → slice_get ys i ≡ Some y → R x y
  zip_at [] ys z i x y a b = absurd cc
  zip_at (u ∷ xs) [] z i x y a b = absurd cc
  zip_at (u ∷ xs) (v ∷ ys) z zero x y a b = let e : u ≡ x = cc in let f : v ≡ y = cc in subst (λ w. R w y) e (subst (R u) f z.0)
  zip_at (u ∷ xs) (v ∷ ys) z (suc i) x y a b = zip_at xs ys z.1 i x y a b

  pub zip_beside : (xs : List X) (ys : List Y) → AllZip R xs ys → Beside (λ i x y. R x y) xs ys
  zip_beside xs ys z = record { count = zip_count xs ys z; each = zip_at xs ys z }
