use Rattle.std.proofs.Common.{◌≡◌, ◌-◌, ◌<◌, ◌≤◌, ℕ, length, get_or}
use Rattle.gf_field.specs.Field.{product, total}
use Rattle.ida_lanes.proofs.lanes.LanesProducts.add_multiple.Given as goal

abbrev pub invariant-lanes : goal.invariant-lanes
invariant-lanes l =
    (l.at ≤ length l.out)
    × (((i : ℕ) → i < l.at → get_or l.out i 0 ≡ total (get_or l.initial.out i 0) (product l.element (get_or l.string i 0)))
    × ((i : ℕ) → l.at ≤ i → get_or l.out i 0 ≡ get_or l.initial.out i 0))

abbrev pub decreases-lanes : goal.decreases-lanes
decreases-lanes l = length l.out - l.at
