-- When a scrub tells how far it is.
use Rattle.std.specs.Prelude.{ℕ, ◌+◌, ◌*◌, ◌/◌, Bool, nat_lt}

-- a tenth more of so many groups is done with the one of this number, counted from 0
abbrev pub ends_tenth : (number groups : ℕ) → Bool
ends_tenth number groups = nat_lt (number * 10 / groups) ((number + 1) * 10 / groups)
