-- Which versions a prune drops, by what a node remembers of its slots.
use Rattle.std.specs.Prelude.{◌≡◌, Bool, false, ◌||◌, if◌then◌else◌, List, ◌∷◌, map, Option, Some, None}
use Rattle.stamp_order.specs.declared.Stamp.{Stamp}
use Rattle.stamp_order.specs.declared.Bound.{Bound}
use Rattle.stamp_order.specs.declared.Bound.TheVariants.{AtMost}
use Rattle.stamp_order.specs.Stamps.{has, before, same_stamp}
use Rattle.protocol.specs.Messages.{Version}
use Rattle.protocol.specs.Setting.{Setting, first_stamp}
use Rattle.protocol.specs.Nodes.{outlives}
use Rattle.slab_index.specs.declared.kept.Kept.{Kept}
use Rattle.slab_index.specs.Kept.{stamp_of, greatest_kept}
use Rattle.slab_engine.specs.Plans.{later_slot}

-- the stamp of the version that is read
abbrev pub read_stamp : Stamp → Bool → Option Kept → Option Stamp
read_stamp first in_bound (Some k) = Some (stamp_of k)
read_stamp first in_bound None = if in_bound then Some first else None

-- the greatest stamp in a bound, of the first version and those of slots
abbrev pub greatest_stamp_of : Stamp → Bound → List Kept → Option Stamp
greatest_stamp_of first bound kept = read_stamp first (has bound first) (later_slot first bound (greatest_kept bound kept))

abbrev pub is_stamp : Stamp → Option Stamp → Bool
is_stamp stamp None = false
is_stamp stamp (Some other) = same_stamp other stamp

-- a prune by a stamp keeps the version of this stamp, where the greatest one up to the prune's is known
abbrev pub stays_by : Stamp → Option Stamp → Stamp → Stamp → Bool
stays_by first greatest stamp one = same_stamp one first || is_stamp one greatest || before stamp one

-- a slot's version outlives a prune exactly where that says so
abbrev pub PrunesAreTold : Setting → Type 0
PrunesAreTold s =
    (first : Version) (version : Kept → Version) (kept : List Kept) (k : Kept) (stamp : Stamp)
    → first.stamp ≡ first_stamp s → ((k : Kept) → (version k).stamp ≡ stamp_of k)
    → outlives s stamp (first ∷ map version kept) (version k)
    ≡ stays_by (first_stamp s) (greatest_stamp_of (first_stamp s) (AtMost stamp) kept) stamp (stamp_of k)
