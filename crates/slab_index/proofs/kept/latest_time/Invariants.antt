use Rattle.std.proofs.Common.{◌≡◌, ◌-◌, drop, length}
use Rattle.slab_index.specs.Kept.{latest_time}
use Rattle.slab_index.proofs.kept.latest_time.Given as goal

abbrev pub invariant-loop-i : goal.invariant-loop-i
invariant-loop-i l = l.time ≡ latest_time (drop (length l.kept - l.i) l.kept)
