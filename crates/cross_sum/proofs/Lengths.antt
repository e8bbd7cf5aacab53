-- What holds of each element by its index holds of all.
use Rattle.std.proofs.Common.{◌≡◌, ℕ, suc, ◌<◌, List, [], ◌∷◌, length, get_or, arith}
use Rattle.std.specs.List.{AllByRecursion}

pub all_of_length : (k : ℕ) (xs : List (List ℕ)) → ((i : ℕ) → i < length xs → length (get_or xs i []) ≡ k) → AllByRecursion (λ d. length d ≡ k) xs
all_of_length k [] h = tt
all_of_length k (x ∷ xs) h = (h 0 (omega arith), all_of_length k xs (λ i l. h (suc i) (omega arith)))

pub all_below : (k : ℕ) (xs : List ℕ) → ((i : ℕ) → i < length xs → get_or xs i 0 < k) → AllByRecursion (λ b. b < k) xs
all_below k [] h = tt
all_below k (x ∷ xs) h = (h 0 (omega arith), all_below k xs (λ i l. h (suc i) (omega arith)))
