-- How a string of bytes is held.
use Rattle.std.specs.Prelude.{ℕ, ◌≤◌, List, take}
use Rattle.std.specs.Arc.{arc_value}
use Rattle.cross_sum.specs.declared.bytes.Held.{Held}
use Rattle.cross_sum.specs.declared.bytes.Held.TheVariants.{Few, Shared}

-- the string that is held
abbrev pub bytes_of : Held → List ℕ
bytes_of (Few len bytes) = take len bytes
bytes_of (Shared vec) = (arc_value vec).items

-- few bytes are at most 14
abbrev pub IsHeld : Held → Type 0
IsHeld (Few len _) = len ≤ 14
IsHeld (Shared _) = Unit {0}
