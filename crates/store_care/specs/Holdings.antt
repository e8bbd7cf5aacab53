-- What a node holds of a block, beside what a read of it gave.
use Rattle.std.specs.Prelude.{◌≡◌, ⊤, ℕ, ◌==◌, ◌&&◌, Bool, true, false, if◌then◌else◌, List, map, Option, slice_get}
use Rattle.std.specs.declared.option.Option.TheVariants.{None, Some}
use Rattle.std.specs.declared.cmp.Ordering.{Ordering}
use Rattle.std.specs.declared.cmp.Ordering.TheVariants.{Less, Equal, Greater}
use Rattle.std.specs.List.{range_with_len}
use Rattle.std.specs.Option.{option_map}
use Rattle.quorum_rules.specs.Limits.{Numbers}
use Rattle.stamp_order.specs.declared.Stamp.{Stamp}
use Rattle.stamp_order.specs.Stamps.{stamp_cmp}
use Rattle.stamp_order.specs.declared.Bound.TheVariants.{All}
use Rattle.gf_field.specs.Fragments.{fragments_of}
use Rattle.ida_code.specs.Sums.{sum_of}
use Rattle.frag_check.specs.declared.summed.Summed.{Summed}
use Rattle.protocol.specs.Messages.{Version}
use Rattle.protocol.specs.Setting.{same, same_digests}
use Rattle.protocol.specs.Nodes.{greatest_in}
use Rattle.node_core.specs.Seen.{SeenNode, versions_in}
use Rattle.version_disk.specs.Stored.{Stored}
use Rattle.store_device.specs.Stores.{SeenStore, seat_at}
use Rattle.store_care.specs.Given.{Given}
use Rattle.store_care.specs.declared.holding.Holding.{Holding}
use Rattle.store_care.specs.declared.holding.Holding.TheVariants.{Sound, Older, Newer, False}

module _ (i : ℕ) where
  -- the version's cross checksum and fragment are those of the value at node i; where there are none, any are
  abbrev pub IsMade : Option Summed → Version → Type 0
  IsMade None v = ⊤
  IsMade (Some summed) v = (v.sum ≡ summed.sum) × (slice_get summed.shares i ≡ Some v.fragment)

  -- what a version is beside a stamp and that
  abbrev pub IsBeside : Stamp → Option Summed → Version → Holding → Type 0
  IsBeside stamp made v Older = stamp_cmp v.stamp stamp ≡ Less
  IsBeside stamp made v Newer = stamp_cmp v.stamp stamp ≡ Greater
  IsBeside stamp made v Sound = (stamp_cmp v.stamp stamp ≡ Equal) × IsMade made v
  IsBeside stamp made v False = (stamp_cmp v.stamp stamp ≡ Equal) × (IsMade made v → ⊥)

-- this is the fragment, if there is one
abbrev pub is_share : Option (List ℕ) → List ℕ → Bool
is_share None fragment = false
is_share (Some share) fragment = same share fragment

-- what a version is whose stamp stands so to what a read gave, and that is made of the value or isn't
abbrev pub holding_by : Ordering → Bool → Holding
holding_by Less made = Older
holding_by Greater made = Newer
holding_by Equal true = Sound
holding_by Equal false = False

-- the same as tests, of node i
module _ (i : ℕ) where
  abbrev pub is_made : Option Summed → Version → Bool
  is_made None v = true
  is_made (Some summed) v = same_digests v.sum summed.sum && is_share (slice_get summed.shares i) v.fragment

  -- the one holding that it is
  abbrev pub holding_of : Stamp → Option Summed → Version → Holding
  holding_of stamp made v = holding_by (stamp_cmp v.stamp stamp) (is_made made v)

-- the newest version that a node keeps of a block
abbrev pub newest_in : SeenNode → ℕ → Option Version
newest_in node block = greatest_in All (versions_in node block)

-- the fragments and the cross checksum of what a read gave; none where that is the first version's, of time 0
abbrev pub made_of : Numbers → Given → Option Summed
made_of c g =
    if g.stamp.time == 0 then None
    else Some (record { shares = fragments_of c.n c.m g.value; sum = sum_of c.n c.m g.value })

module _ {D : Type 0} where
  -- the newest version of a block that is kept by the node that sits there; None where none is up
  abbrev pub newest_by : Option (Stored D) → ℕ → Option Version
  newest_by None block = None
  newest_by (Some node) block = if node.broken then None else newest_in node.node block

  -- the newest version of a block at a seat
  abbrev pub newest_at : SeenStore D → ℕ → ℕ → Option Version
  newest_at store block seat = newest_by (seat_at store seat) block

  -- and at each seat
  abbrev pub newest_of : SeenStore D → ℕ → List (Option Version)
  newest_of store block = map (newest_at store block) (range_with_len 0 store.config.n)

-- what the node of a seat is, whose newest version this is, beside what a read gave; None where none is up
abbrev pub holding_at : Numbers → Given → ℕ → Option Version → Option Holding
holding_at c g seat newest = option_map (holding_of seat g.stamp (made_of c g)) newest
