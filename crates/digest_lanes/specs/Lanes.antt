-- Four numbers in a vector, and four lists in a list of vectors.
use Rattle.std.specs.Prelude.{◌≡◌, ℕ, ◌<◌, List, [], ◌∷◌, length, map, slice_index, slice_index_or}
use Rattle.std.specs.Simd.Lanes.{Each1}

-- lane j of the vector is g j
pub record HasLanes (v : List ℕ) (g : ℕ → ℕ) : Type 0 where
  pub len : length v ≡ 4
  pub each : (j : ℕ) → j < 4 → slice_index v j ≡ g j

-- lane j of each vector
abbrev pub lane : List (List ℕ) → ℕ → List ℕ
lane v j = map (λ x. slice_index x j) v

-- n vectors of four lanes
pub record AreVectors (n : ℕ) (v : List (List ℕ)) : Type 0 where
  pub count : length v ≡ n
  pub each : Each1 (λ x. length x ≡ 4) v

-- message j of four
abbrev pub message : List ℕ → List ℕ → List ℕ → List ℕ → ℕ → List ℕ
message a b c d j = slice_index_or (a ∷ b ∷ c ∷ d ∷ []) j []
