use Rattle.std.proofs.Common.{◌≡◌, ◌<◌, ◌≤◌, ℕ, get_or}
use Rattle.gf_field.specs.Field.{product, total}
use Rattle.ida_code.proofs.shifts.ShiftsProducts.add_multiple.Given as goal

abbrev pub invariant-loop-j : goal.invariant-loop-j
invariant-loop-j l =
    ((i : ℕ) → i < l.j → get_or l.out i 0 ≡ total (get_or l.initial.out i 0) (product l.element (get_or l.string i 0)))
    × ((i : ℕ) → l.j ≤ i → get_or l.out i 0 ≡ get_or l.initial.out i 0)
