-- Counts that one number more changes.
use Rattle.std.proofs.Common.{◌≡◌, ◌⊎◌, ℕ, zero, suc, ◌+◌, ◌<◌, ◌≤◌, Bool, true, false, cond, refl, ap, inl, inr, arith}
use Rattle.protocol.specs.Count.{count}

pub count_same : (n : ℕ) (p q : ℕ → Bool) → ((i : ℕ) → i < n → q i ≡ p i) → count n q ≡ count n p
count_same zero p q h = refl
count_same (suc n) p q h =
    let rest = count_same n p q (λ i l. h i (omega arith)) in
    let last : cond {A = ℕ} (q n) 1 0 ≡ cond (p n) 1 0 = ap (λ b. cond {A = ℕ} b 1 0) (h n (omega arith)) in
    omega (arith, rest, last)

pub count_one_more : (n k : ℕ) (p q : ℕ → Bool) → k < n → p k ≡ false → q k ≡ true → ((i : ℕ) → (i ≡ k → ⊥) → q i ≡ p i) → count n q ≡ count n p + 1
count_one_more zero k p q l a b h = absurd (omega arith)
count_one_more (suc n) k p q l a b h =
    let c : (k ≡ n) ⊎ (k < n) = grind arith in
    elim c [
      | inl e ↦ (
          let rest = count_same n p q (λ i m. h i (λ f. omega (arith, e, m, f))) in
          let one : cond {A = ℕ} (q n) 1 0 ≡ 1 = rw (← e, b) refl in
          let none : cond {A = ℕ} (p n) 1 0 ≡ 0 = rw (← e, a) refl in
          omega (arith, rest, one, none))
      | inr m ↦ (
          let rest = count_one_more n k p q m a b h in
          let last : cond {A = ℕ} (q n) 1 0 ≡ cond (p n) 1 0 = ap (λ b. cond {A = ℕ} b 1 0) (h n (λ f. omega (arith, m, f))) in
          omega (arith, rest, last))
    ]

pub count_none : (n : ℕ) (p : ℕ → Bool) → ((i : ℕ) → p i ≡ false) → count n p ≡ 0
count_none zero p h = refl
count_none (suc n) p h =
    let rest = count_none n p h in
    let last : cond {A = ℕ} (p n) 1 0 ≡ 0 = rw (h n) refl in
    omega (arith, rest, last)

pub count_most : (n : ℕ) (p : ℕ → Bool) → count n p ≤ n
count_most zero p = omega arith
count_most (suc n) p = omega (arith, count_most n p, bit (p n))
  where
    bit : (b : Bool) → cond {A = ℕ} b 1 0 ≤ 1
    bit true = omega arith
    bit false = omega arith
