use Rattle.std.proofs.Common.{◌≡◌, ◌<◌, ◌≤◌, ℕ, get_or}
use Rattle.gf_field.specs.Field.{total}
use Rattle.ida_lanes.proofs.lanes.add_rest.Given as goal

abbrev pub invariant-loop-j : goal.invariant-loop-j
invariant-loop-j l =
    ((i : ℕ) → i < l.j → get_or l.out i 0 ≡ total (get_or l.initial.out i 0) (get_or l.products i 0))
    × ((i : ℕ) → l.j ≤ i → get_or l.out i 0 ≡ get_or l.initial.out i 0)
