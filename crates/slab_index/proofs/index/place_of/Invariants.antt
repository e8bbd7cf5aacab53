use Rattle.std.proofs.Common.{ℕ, ◌<◌, ◌≤◌, get_or}
use Rattle.slab_index.specs.Kept.{Kept}
use Rattle.slab_index.proofs.index.place_of.Given as goal

abbrev pub invariant-loop-i : goal.invariant-loop-i
invariant-loop-i l = (k : ℕ) (d : Kept) → k < l.i → (get_or l.list k d).number ≤ l.number
