use Rattle.std.proofs.Common.{ℕ, ◌<◌, get_or}
use Rattle.slab_runs.proofs.life.are_slots.Given as goal

abbrev pub invariant-loop-slot : goal.invariant-loop-slot
invariant-loop-slot l = (k : ℕ) (d : ℕ) → k < l.slot-index → get_or l.slots k d < l.fn.shape.count
