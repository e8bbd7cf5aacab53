-- Two lists are of one length if they have as many elements in each part.
use Rattle.std.proofs.Common.{◌≡◌, ℕ, zero, suc, ◌+◌, ◌<◌, true, false, filter, List, [], ◌∷◌, length, refl, sym, ap, ◌∙◌, ◌⊎◌, inl, inr, arith}
use Rattle.std.specs.Prelude.{nat_lt, ◌==◌}
use Rattle.std.specs.List.{AllByRecursion}
use Rattle.std.proofs.lemmas.Bool.Decides.{nat_tests}

order_of : (a k : ℕ) → (a < k) ⊎ (a ≡ k) ⊎ (k < a)
order_of a k = grind arith

module _ {X : Type 0} (f : X → ℕ) where
  -- those with this number
  abbrev pub part : ℕ → List X → List X
  part k xs = filter (λ x. f x == k) xs

  -- those with a lower one
  abbrev below : ℕ → List X → List X
  below k xs = filter (λ x. nat_lt (f x) k) xs

  none_below : (xs : List X) → length (below 0 xs) ≡ 0
  none_below [] = refl
  none_below (x ∷ xs) = let test : nat_lt (f x) 0 ≡ false = grind (arith, nat_tests) in rw test (none_below xs)

  all_below : (n : ℕ) (xs : List X) → AllByRecursion (λ x. f x < n) xs → length (below n xs) ≡ length xs
  all_below n [] h = refl
  all_below n (x ∷ xs) h =
      let low : f x < n = h.0 in
      let test : nat_lt (f x) n ≡ true = grind (arith, nat_tests) in
      rw test (ap suc (all_below n xs h.1))

  more_below : (k : ℕ) (xs : List X) → length (below (suc k) xs) ≡ length (below k xs) + length (part k xs)
  more_below k [] = refl
  more_below k (x ∷ xs) = by (order_of (f x) k) (more_below k xs)
    where
      by : (f x < k) ⊎ (f x ≡ k) ⊎ (k < f x) → length (below (suc k) xs) ≡ length (below k xs) + length (part k xs)
          → length (below (suc k) (x ∷ xs)) ≡ length (below k (x ∷ xs)) + length (part k (x ∷ xs))
      by (inl lower) rest =
          let within : nat_lt (f x) (suc k) ≡ true = grind (arith, nat_tests) in
          let under : nat_lt (f x) k ≡ true = grind (arith, nat_tests) in
          let other : (f x == k) ≡ false = grind (arith, nat_tests) in
          rw (within, under, other) (omega (arith, rest))
      by (inr (inl same)) rest =
          let within : nat_lt (f x) (suc k) ≡ true = grind (arith, nat_tests) in
          let under : nat_lt (f x) k ≡ false = grind (arith, nat_tests) in
          let here : (f x == k) ≡ true = grind (arith, nat_tests) in
          rw (within, under, here) (omega (arith, rest))
      by (inr (inr higher)) rest =
          let within : nat_lt (f x) (suc k) ≡ false = grind (arith, nat_tests) in
          let under : nat_lt (f x) k ≡ false = grind (arith, nat_tests) in
          let other : (f x == k) ≡ false = grind (arith, nat_tests) in
          rw (within, under, other) (omega (arith, rest))

pub same_length : {X Y : Type 0} (f : X → ℕ) (g : Y → ℕ) (n : ℕ) (xs : List X) (ys : List Y) → AllByRecursion (λ x. f x < n) xs → AllByRecursion (λ y. g y < n) ys
    → ((k : ℕ) → length (part f k xs) ≡ length (part g k ys)) → length xs ≡ length ys
same_length f g n xs ys low_x low_y same = sym (all_below f n xs low_x) ∙ lower n ∙ all_below g n ys low_y
  where
    lower : (k : ℕ) → length (below f k xs) ≡ length (below g k ys)
    lower zero = none_below f xs ∙ sym (none_below g ys)
    lower (suc k) = let rest = lower k in let here = same k in omega (arith, rest, here, more_below f k xs, more_below g k ys)
