-- Counts of the numbers below n.
use Rattle.std.proofs.Common.{◌≡◌, ℕ, zero, suc, ◌+◌, ◌<◌, ◌≤◌, Bool, true, false, cond, not, ◌&&◌, ◌||◌, List, [], ◌∷◌, length, refl, arith, ◌⊎◌, inl, inr, eqb}
use Rattle.std.specs.List.{list_any}
use Rattle.std.proofs.lemmas.Bool.Decides.{eqb_tells}
use Rattle.protocol.specs.Count.{count, update}
use Rattle.protocol.specs.Instance.{nobody}

-- two sets of numbers below n share as many as their sizes go beyond n
bits : (a c : Bool) → cond a 1 0 + cond c 1 0 ≤ 1 + cond (a && c) 1 0
bits true true = omega arith
bits true false = omega arith
bits false true = omega arith
bits false false = omega arith

pub count_shared : (n : ℕ) (p q : ℕ → Bool) → count n p + count n q ≤ n + count n (λ i. p i && q i)
count_shared zero p q = omega arith
count_shared (suc k) p q = omega (arith, count_shared k p q, bits (p k) (q k))

bits_within : (a c : Bool) → (a ≡ true → c ≡ true) → cond a 1 0 ≤ cond c 1 0
bits_within true true h = omega arith
bits_within true false h = absurd (cc (h refl))
bits_within false c h = omega arith

pub count_within : (n : ℕ) (p q : ℕ → Bool) → ((i : ℕ) → i < n → p i ≡ true → q i ≡ true) → count n p ≤ count n q
count_within zero p q h = omega arith
count_within (suc k) p q h =
    omega (arith, count_within k p q (λ i l. h i (omega arith)), bits_within (p k) (q k) (h k (omega arith)))

-- where more than none pass, one does
at_end : (k : ℕ) (p : ℕ → Bool) → 0 < count (suc k) p → (0 < count k p → (i : ℕ) × (i < k) × (p i ≡ true)) → (b : Bool) → p k ≡ b → (i : ℕ) × (i < suc k) × (p i ≡ true)
at_end k p h rest true e = (k, omega arith, e)
at_end k p h rest false e =
    let z : cond {A = ℕ} (p k) 1 0 ≡ 0 = rw e refl in
    let r = rest (omega (arith, h, z)) in (r.0, omega (arith, r.1), r.2)

pub some_passes : (n : ℕ) (p : ℕ → Bool) → 0 < count n p → (i : ℕ) × (i < n) × (p i ≡ true)
some_passes zero p h = absurd (omega arith)
some_passes (suc k) p h = at_end k p h (some_passes k p) (p k) refl

bits_not : (b : Bool) → cond b 1 0 + cond (not b) 1 0 ≡ 1
bits_not true = omega arith
bits_not false = omega arith

pub count_not : (n : ℕ) (p : ℕ → Bool) → count n p + count n (λ i. not (p i)) ≡ n
count_not zero p = omega arith
count_not (suc k) p = omega (arith, count_not k p, bits_not (p k))

pub both_true : (a c : Bool) → a && c ≡ true → (a ≡ true) × (c ≡ true)
both_true true true h = (refl, refl)
both_true true false h = absurd (cc)
both_true false c h = absurd (cc)

pub update-cases : {A : Type 0} (f : ℕ → A) (k : ℕ) (v : A) (j : ℕ) → ((j ≡ k) × (update f k v j ≡ v)) ⊎ ((j ≡ k → ⊥) × (update f k v j ≡ f j))
update-cases f k v j =
    elim (eqb_tells j k) [ inl h ↦ inl (h.1, rw h.0 refl) | inr h ↦ inr (h.1, rw h.0 refl) ]

pub update-same : {A : Type 0} (f : ℕ → A) (k : ℕ) (v : A) → update f k v k ≡ v
update-same f k v = elim (update-cases f k v k) [ inl h ↦ h.1 | inr h ↦ absurd (h.0 refl) ]

-- a list names at most as many numbers as it is long
or_bits : (a c : Bool) → cond {A = ℕ} (a || c) 1 0 ≤ 1
or_bits true c = omega arith
or_bits false true = omega arith
or_bits false false = omega arith

one_more_named : (n x : ℕ) (p : ℕ → Bool) → count n (λ i. eqb i x || p i) ≤ suc (count n p)
one_more_named zero x p = omega arith
one_more_named (suc k) x p =
    let rest = one_more_named k x p in
    elim (eqb_tells k x) [
      | inl h ↦ (let b = or_bits (eqb k x) (p k) in
          let same = count_within k (λ i. eqb i x || p i) p (λ i l t. others i (p i) (λ e. let q = h.1 in omega (arith, l, e, q)) t) in
          omega (arith, b, same))
      | inr h ↦ (let e : cond {A = ℕ} (eqb k x || p k) 1 0 ≡ cond (p k) 1 0 = rw h.0 refl in omega (arith, rest, e))
    ]
  where
    others : (i : ℕ) (c : Bool) → (i ≡ x → ⊥) → eqb i x || c ≡ true → c ≡ true
    others i c n t = elim (eqb_tells i x) [ inl h ↦ absurd (n h.1) | inr h ↦ (let g : false || c ≡ true = rw h.0 at t in g) ]

pub count_named : (n : ℕ) (xs : List ℕ) → count n (λ i. list_any (λ x. eqb i x) xs) ≤ length xs
count_named n [] = none n
  where
    none : (n : ℕ) → count n (λ i. false) ≤ 0
    none zero = omega arith
    none (suc k) = omega (arith, none k)
count_named n (x ∷ xs) = omega (arith, one_more_named n x (λ i. list_any (λ y. eqb i y) xs), count_named n xs)

pub nobody_counts : (n : ℕ) → count n nobody ≡ 0
nobody_counts zero = refl
nobody_counts (suc n) = let none = nobody_counts n in omega (arith, none)
