-- What the first w of n nodes give, and no other.
use Rattle.std.proofs.Common.{◌≡◌, ℕ, zero, suc, ◌<◌, ◌≤◌, Bool, true, false, refl, ◌⊎◌, inl, inr, arith, leb, Option}
use Rattle.std.specs.declared.option.Option.TheVariants.{None, Some}
use Rattle.std.proofs.lemmas.Bool.Decides.{nat_tests}
use Rattle.protocol.specs.Count.{count}
use Rattle.protocol.specs.Reach.{reaches, greater, greatest, reach, if_reached, highest}

-- just the numbers below w pass
pub count_below : (n w : ℕ) (p : ℕ → Bool) → w ≤ n → ((i : ℕ) → i < w → p i ≡ true) → ((i : ℕ) → w ≤ i → i < n → p i ≡ false) → count n p ≡ w
count_below zero w p l there gone = omega (arith, l)
count_below (suc k) w p l there gone =
    let c : (w ≤ k) ⊎ (w ≡ suc k) = grind arith in
    elim c [
      | inl h ↦ (let e : p k ≡ false = gone k h (omega arith) in let r = count_below k w p h there (λ i a b. gone i a (omega (arith, b))) in rw e (omega (arith, r)))
      | inr h ↦ (let e : p k ≡ true = there k (omega (arith, h)) in let r = count_below k k p (omega arith) (λ i a. there i (omega (arith, a, h))) (λ i a b. absurd (omega (arith, a, b))) in rw e (omega (arith, r, h)))
    ]

module _ {X : Type 0} (le : X → X → Bool) (x : X) (same : le x x ≡ true) where
  greater_same : greater le (Some x) (Some x) ≡ Some x
  greater_same = rw same refl

  -- what the numbers below w give is the greatest
  pub greatest_below : (n w : ℕ) (f : ℕ → Option X) → 1 ≤ w → w ≤ n → ((i : ℕ) → i < w → f i ≡ Some x) → ((i : ℕ) → w ≤ i → i < n → f i ≡ None) → greatest le n f ≡ Some x
  greatest_below zero w f some l there gone = absurd (omega (arith, some, l))
  greatest_below (suc zero) w f some l there gone = let e : f 0 ≡ Some x = there 0 (omega (arith, some)) in rw e refl
  greatest_below (suc (suc k)) w f some l there gone =
      let c : (w ≤ suc k) ⊎ (w ≡ suc (suc k)) = grind arith in
      elim c [
        | inl h ↦ (let e : f (suc k) ≡ None = gone (suc k) h (omega arith) in let r = greatest_below (suc k) w f some h there (λ i a b. gone i a (omega (arith, b))) in rw (r, e) refl)
        | inr h ↦ (let e : f (suc k) ≡ Some x = there (suc k) (omega (arith, h)) in
            let r = greatest_below (suc k) (suc k) f (omega arith) (omega arith) (λ i a. there i (omega (arith, a, h))) (λ i a b. absurd (omega (arith, a, b))) in rw (r, e) greater_same)
      ]

  -- and the k-th highest, where k is no more than w
  pub highest_below : (n w k : ℕ) (f : ℕ → Option X) → 1 ≤ w → w ≤ n → k ≤ w → ((i : ℕ) → i < w → f i ≡ Some x) → ((i : ℕ) → w ≤ i → i < n → f i ≡ None) → highest le n f k ≡ Some x
  highest_below n w k f some l few there gone =
      let all : reach le n f x ≡ w =
      count_below n w (λ i. reaches le x (f i)) l (λ i a. (let e : f i ≡ Some x = there i a in rw e same)) (λ i a b. (let e : f i ≡ None = gone i a b in rw e refl)) in
      let enough : leb k (reach le n f x) ≡ true = grind (arith, nat_tests) in
      greatest_below n w (λ i. if_reached le n f k (f i)) some l
      (λ i a. (let e : f i ≡ Some x = there i a in rw (e, enough) refl))
      (λ i a b. (let e : f i ≡ None = gone i a b in rw e refl))
