-- Ascending numbers, gone through from the least on.
use Rattle.std.proofs.Common.{◌≡◌, ℕ, ◌+◌, ◌≤◌, ◌<◌, Bool, true, false, cond, eqb, ltb, List, [], ◌∷◌, ◌++◌, refl, ap, arith, inl, inr}
use Rattle.std.specs.List.{filter, AllByRecursion}
use Rattle.std.specs.List.Sorted.{IsStrictlySortedBy}
use Rattle.std.specs.Ordering.{nat_cmp}
use Rattle.std.specs.declared.cmp.Ordering.TheVariants.{Less, Equal, Greater}
use Rattle.std.proofs.lemmas.Bool.{cases_lt, eq-eqb}
use Rattle.std.proofs.lemmas.Bool.Decides.{nat_tests}
use Rattle.wire_forms.specs.Liars.{IsAscending, has_number}
use Rattle.lists.proofs.lemmas.Tests.{other_below}
use Rattle.lists.proofs.lemmas.Orders.{less_of_nat_cmp}

-- the numbers below a limit
abbrev pub numbers_below : ℕ → List ℕ → List ℕ
numbers_below limit ks = filter (λ k. ltb k limit) ks

yes : (a b : ℕ) → a < b → ltb a b ≡ true
yes a b h = grind (arith, nat_tests)

pub no_less : (a b : ℕ) → b ≤ a → ltb a b ≡ false
no_less a b h = grind (arith, nat_tests)

pub other_above : (a b : ℕ) → a < b → eqb a b ≡ false
other_above a b h = grind arith

not_less : (b : Bool) → cond b Equal Greater ≡ Less → ⊥
not_less true h = absurd cc
not_less false h = absurd cc

abbrev AllAbove : ℕ → List ℕ → Type 0
AllAbove least ks = AllByRecursion (λ k. least < k) ks

rest_above : (least x : ℕ) (ks : List ℕ) → least ≤ x → AllByRecursion (λ k. nat_cmp x k ≡ Less) ks → AllAbove least ks
rest_above least x [] le h = tt
rest_above least x (k ∷ ks) le h = let lt = less_of_nat_cmp x k h.0 in (omega arith, rest_above least x ks le h.1)

none_below : (limit least : ℕ) (ks : List ℕ) → limit ≤ least + 1 → AllAbove least ks → numbers_below limit ks ≡ []
none_below limit least [] le h = refl
none_below limit least (k ∷ ks) le h = let lt = h.0 in rw (no_less k limit (omega arith)) (none_below limit least ks le h.1)

has_none : (least : ℕ) (ks : List ℕ) → AllAbove least ks → has_number ks least ≡ false
has_none least [] h = refl
has_none least (k ∷ ks) h = rw (other_above least k h.0) (has_none least ks h.1)

-- where all are at least so much, none is below
pub below_none : (limit : ℕ) (ks : List ℕ) → AllByRecursion (λ k. limit ≤ k) ks → numbers_below limit ks ≡ []
below_none limit [] h = refl
below_none limit (k ∷ ks) h = rw (no_less k limit h.0) (below_none limit ks h.1)

pub below_all : (limit : ℕ) (ks : List ℕ) → AllByRecursion (λ k. k < limit) ks → numbers_below limit ks ≡ ks
below_all limit [] h = refl
below_all limit (k ∷ ks) h = rw (yes k limit h.0) (ap (λ (xs : List ℕ). k ∷ xs) (below_all limit ks h.1))

-- one number more
pub below_next : (limit : ℕ) (ks : List ℕ) → IsAscending ks → numbers_below (limit + 1) ks ≡ numbers_below limit ks ++ cond (has_number ks limit) (limit ∷ []) []
unfolding IsStrictlySortedBy
below_next limit [] h = refl
below_next limit (k ∷ ks) h =
    elim (cases_lt k limit) [
      | inl lt ↦ rw (yes k (limit + 1) (omega arith), yes k limit lt, other_below limit k lt) (ap (λ (xs : List ℕ). k ∷ xs) (below_next limit ks h.1))
      | inr le ↦ elim (cases_lt limit k) [
        | inl lt ↦
            let up = rest_above limit k ks le h.0 in
            rw (no_less k (limit + 1) (omega arith), no_less k limit le, other_above limit k lt, has_none limit ks up, none_below (limit + 1) limit ks (omega arith) up, none_below limit limit ks (omega arith) up) refl
        | inr ge ↦
            let is : k ≡ limit = omega arith in
            let up = rest_above limit k ks le h.0 in
            rw (yes k (limit + 1) (omega arith), no_less k limit le, eq-eqb limit k (omega arith), none_below (limit + 1) limit ks (omega arith) up, none_below limit limit ks (omega arith) up, is) refl
      ]
    ]

pub below_zero : (ks : List ℕ) → numbers_below 0 ks ≡ []
below_zero [] = refl
below_zero (k ∷ ks) = rw (no_less k 0 (omega arith)) (below_zero ks)
