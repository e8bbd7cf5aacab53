-- The marked slots of a block, as marks and slots change.
use Rattle.std.proofs.Common.{◌≡◌, ◌⊎◌, inl, inr, ℕ, zero, suc, ◌+◌, ◌<◌, ◌≤◌, ◌==◌, ◌&&◌, Bool, true, false, ◌∷◌, refl, ◌∙◌, ap, arith}
use Rattle.std.proofs.lemmas.Bool.{cases_Bool, cases_lt}
use Rattle.slab_node.specs.Held.{Entry, counts, entries_from}

-- a search among the first few numbers
pub find : (f : ℕ → Bool) (n : ℕ) → ((j : ℕ) × (j < n) × (f j ≡ true)) ⊎ ((j : ℕ) → j < n → f j ≡ false)
find f zero = inr (λ j lt. absurd (omega arith))
find f (suc n) = elim (cases_Bool (f n)) [
  | inl hit ↦ inl (n, omega arith, hit)
  | inr miss ↦ elim (find f n) [
    | inl found ↦ inl (found.0, omega (arith, found.1), found.2)
    | inr none ↦ inr (λ j lt. elim (cases_lt j n) [ inl below ↦ none j below | inr top ↦ (let same : j ≡ n = omega arith in ap f same ∙ miss) ])
  ]
]

module _ (m m' : ℕ → Bool) (e e' : ℕ → Entry) (block : ℕ) where
  -- where the same slots count, and have the same, the slots are the same
  pub entries_same : (i n : ℕ) → ((k : ℕ) → i ≤ k → k < i + n → counts m' e' block k ≡ counts m e block k)
      → ((k : ℕ) → i ≤ k → k < i + n → counts m e block k ≡ true → e' k ≡ e k) → entries_from m' e' block i n ≡ entries_from m e block i n
  entries_same i zero alike same = refl
  entries_same i (suc n) alike same =
      let rest = entries_same (suc i) n (λ k low high. alike k (omega (arith, low)) (omega (arith, high))) (λ k low high. same k (omega (arith, low)) (omega (arith, high))) in
      let here = alike i (omega arith) (omega arith) in
      elim (cases_Bool (counts m e block i)) [
        | inl hit ↦ rw (here ∙ hit) (rw hit (λ j. same i (omega arith) (omega arith) hit j ∷ rest j))
        | inr miss ↦ rw (here ∙ miss) (rw miss rest)
      ]

-- marks that are the same
pub marks_same : (m m' : ℕ → Bool) (e : ℕ → Entry) (block n : ℕ) → ((k : ℕ) → k < n → m' k ≡ m k) → entries_from m' e block 0 n ≡ entries_from m e block 0 n
marks_same m m' e block n same =
    entries_same m m' e e block 0 n (λ k low high. ap (λ b. b && ((e k).head.block == block)) (same k (omega (arith, high)))) (λ k low high hit. refl)
