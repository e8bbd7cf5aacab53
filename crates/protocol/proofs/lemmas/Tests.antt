-- What tests say where they pass or fail.
use Rattle.std.proofs.Common.{◌≡◌, ℕ, ◌<◌, Bool, true, false, not, ◌&&◌, ◌||◌, refl, arith, eqb, ltb, leb}
use Rattle.std.proofs.lemmas.Bool.Decides.{nat_tests}
use Rattle.std.proofs.lemmas.Bool.{eq-eqb}

pub is_ltb : (a b : ℕ) → ltb a b ≡ true → a < b
is_ltb a b h = grind (arith, nat_tests)

pub not_leb : (a b : ℕ) → leb b a ≡ false → a < b
not_leb a b h = grind (arith, nat_tests)

pub not_false : (a : Bool) → not a ≡ false → a ≡ true
not_false true h = refl
not_false false h = absurd (cc)

pub not_true : (a : Bool) → not a ≡ true → a ≡ false
not_true true h = absurd (cc)
not_true false h = refl

-- neither of an `or` that fails passes, and the other way round
pub neither_of_or : (a c : Bool) → a || c ≡ false → (a ≡ false) × (c ≡ false)
neither_of_or true c h = absurd (cc)
neither_of_or false c h = (refl, h)

pub or_false : (a c : Bool) → a ≡ false → c ≡ false → a || c ≡ false
or_false a c h k = rw (h, k) refl

pub and_true : (a c : Bool) → a ≡ true → c ≡ true → a && c ≡ true
and_true a c h k = rw (h, k) refl

-- two numbers are those of two others: where the test passes, and where it doesn't
pub are_same : (a b d e : ℕ) → eqb a b && eqb d e ≡ true → (a ≡ b) × (d ≡ e)
are_same a b d e h = (grind (arith, nat_tests), grind (arith, nat_tests))

pub same_are : (a b d e : ℕ) → a ≡ b → d ≡ e → eqb a b && eqb d e ≡ true
same_are a b d e p q = and_true (eqb a b) (eqb d e) (eq-eqb a b p) (eq-eqb d e q)

pub not_same : (a b d e : ℕ) → eqb a b && eqb d e ≡ false → a ≡ b → d ≡ e → ⊥
not_same a b d e h p q = grind (arith, nat_tests)

pub same_not : (a b d e : ℕ) → ((a ≡ b) × (d ≡ e) → ⊥) → eqb a b && eqb d e ≡ false
same_not a b d e h = at (eqb a b && eqb d e) refl
  where
    at : (t : Bool) → eqb a b && eqb d e ≡ t → t ≡ false
    at true k = absurd (h (are_same a b d e k))
    at false k = refl
