-- How many bytes a source gave, of so many that were wanted.
use Rattle.std.specs.Prelude.{◌≡◌, ℕ, ◌<◌, ◌≤◌, List, length, Option}
use Rattle.std.specs.Io.KnownBytes.{Consumes, IsAtEnd}

-- the source gave at most so many bytes, and fewer only to its end
abbrev pub GaveUpTo : ℕ → Option (List ℕ) → Option (List ℕ) → List ℕ → Type 0
GaveUpTo most old new bytes = Consumes old new bytes × (length bytes ≤ most) × (length bytes < most → IsAtEnd new)

-- the source gave fewer bytes than so many
abbrev pub GaveFewer : ℕ → Option (List ℕ) → Option (List ℕ) → Type 0
GaveFewer most old new = (bytes : List ℕ) × Consumes old new bytes × (length bytes < most)
