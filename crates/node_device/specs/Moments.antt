-- The bytes of a device at a place of a run, by the run's history.
use Rattle.std.specs.Prelude.{◌≡◌, ◌≤◌, ◌<◌, ◌⊎◌, ℕ, Bool, false, nat_lt, if◌then◌else◌, List, [], ◌∷◌, Option}
use Rattle.std.specs.declared.option.Option.TheVariants.{None, Some}
use Rattle.std.specs.List.{Contains, flat_map, range_with_len}
use Rattle.protocol.specs.Setting.{Setting, zeros}
use Rattle.protocol.specs.History.{Entry, values_after}

-- there is an end, and it is before the place
abbrev pub had_ended : ℕ → Option ℕ → Bool
had_ended place None = false
had_ended place (Some end) = nat_lt end place

-- what blocks with these values hold when the writes among the entries that had ended before the place are done, one after the other
abbrev pub values_from : (ℕ → List ℕ) → ℕ → List Entry → ℕ → List ℕ
values_from values place [] = values
values_from values place (e ∷ es) = values_from (if had_ended place e.end then values_after e.kind e values else values) place es

-- what each block holds at a place of the run with this history: the value of the last write, in the history's order, of those that had ended before the place; zeros where there is none
abbrev pub values_at : Setting → List Entry → ℕ → ℕ → List ℕ
values_at s history place = values_from (λ block. zeros s) place history

-- the bytes of all blocks as one array, one block after the other
abbrev pub array_of : ℕ → (ℕ → List ℕ) → List ℕ
array_of blocks held = flat_map held (range_with_len 0 blocks)

-- the operation had ended before the place
abbrev pub HasEndedBefore : ℕ → Entry → Type 0
HasEndedBefore place e = (end : ℕ) × (e.end ≡ Some end) × (end < place)

-- the operation began at the place or after it
abbrev pub HasBegunFrom : ℕ → Entry → Type 0
HasBegunFrom place e = (start : ℕ) × (e.start ≡ Some start) × (place ≤ start)

-- no operation on the block but these was under way, or began, from the one place up to the other
abbrev pub IsQuiet : List Entry → List Entry → ℕ → ℕ → ℕ → Type 0
IsQuiet history own from until block = (e : Entry) → Contains history e → e.block ≡ block → Contains own e ⊎ HasEndedBefore from e ⊎ HasBegunFrom until e
