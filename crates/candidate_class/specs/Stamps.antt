-- Stamps by node.
use Rattle.std.specs.Prelude.{ℕ, Bool, false, List, Option}
use Rattle.std.specs.List.{slice_index_or}
use Rattle.std.specs.declared.option.Option.TheVariants.{None, Some}
use Rattle.stamp_order.specs.declared.Stamp.{Stamp}
use Rattle.stamp_order.specs.Stamps.{same_stamp}

-- the stamp of node i, if it has one
abbrev pub stamp_at : List (Option Stamp) → ℕ → Option Stamp
stamp_at stamps i = slice_index_or stamps i None

-- there is a stamp, and it is this one
abbrev pub is_stamp : Stamp → Option Stamp → Bool
is_stamp stamp None = false
is_stamp stamp (Some x) = same_stamp x stamp
