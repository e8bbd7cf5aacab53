-- Stamps are the same where their fields are.
use Rattle.std.proofs.Common.{◌≡◌, ℕ, Bool, true, false, ◌&&◌, refl, arith, eqb, ltb}
use Rattle.std.specs.declared.cmp.Ordering.{Ordering}
use Rattle.std.specs.declared.cmp.Ordering.TheVariants.{Less, Equal, Greater}
use Rattle.std.specs.Ordering.{nat_cmp, is_eq, ordering_then}
use Rattle.std.specs.Str.{bytes_eq}
use Rattle.std.proofs.lemmas.Bool.Decides.{nat_tests}
use Rattle.std.proofs.lemmas.Map.Text.{is_eq-slice_cmp}
use Rattle.stamp_order.specs.declared.Stamp.{Stamp}
use Rattle.stamp_order.specs.Stamps.{stamp_cmp, same_stamp}

is_eq-then : (a b : Ordering) → is_eq (ordering_then a b) ≡ is_eq a && is_eq b
is_eq-then Less b = refl
is_eq-then Equal b = refl
is_eq-then Greater b = refl

is_eq-nat : (x y : ℕ) → is_eq (nat_cmp x y) ≡ eqb x y
is_eq-nat x y = at (ltb x y) refl (eqb x y) refl
  where
    at : (b : Bool) → ltb x y ≡ b → (d : Bool) → eqb x y ≡ d → is_eq (nat_cmp x y) ≡ eqb x y
    at true e d f = let g : eqb x y ≡ false = grind (arith, nat_tests) in rw (e, g) refl
    at false e true f = rw (e, f) refl
    at false e false f = rw (e, f) refl

pub same_stamp-fields : (s t : Stamp) → same_stamp s t ≡ eqb s.time t.time && (eqb s.client t.client && bytes_eq s.verifier t.verifier)
unfolding same_stamp stamp_cmp
same_stamp-fields s t = simp (is_eq-then, is_eq-nat, is_eq-slice_cmp)
