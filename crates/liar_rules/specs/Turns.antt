-- Strings of two lists by turns.
use Rattle.std.specs.Prelude.{ℕ, ◌%◌, ◌==◌, if◌then◌else◌, List, [], slice_index_or}

-- an even number has the first list's string, an odd one the second's
abbrev pub turn : List (List ℕ) → List (List ℕ) → ℕ → List ℕ
turn even odd i = if i % 2 == 0 then slice_index_or even i [] else slice_index_or odd i []
