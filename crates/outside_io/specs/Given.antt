-- How many bytes a source gave.
use Rattle.std.specs.Prelude.{◌≡◌, ◌≤◌, ℕ, List, length, Option}
use Rattle.std.specs.Io.KnownBytes.{Consumes}

-- the source gave some bytes, at most so many
abbrev pub GaveAtMost : ℕ → Option (List ℕ) → Option (List ℕ) → Type 0
GaveAtMost most old new = (bytes : List ℕ) × Consumes old new bytes × (length bytes ≤ most)

-- the source gave just so many bytes
abbrev pub GaveExactly : ℕ → Option (List ℕ) → Option (List ℕ) → Type 0
GaveExactly count old new = (bytes : List ℕ) × Consumes old new bytes × (length bytes ≡ count)
