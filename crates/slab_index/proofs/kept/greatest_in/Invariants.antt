use Rattle.std.proofs.Common.{◌≡◌, ◌-◌, drop, length}
use Rattle.slab_index.specs.Kept.{greatest_kept}
use Rattle.slab_index.proofs.kept.greatest_in.Given as goal

abbrev pub invariant-loop-i : goal.invariant-loop-i
invariant-loop-i l = l.greatest ≡ greatest_kept l.bound (drop (length l.kept - l.i) l.kept)
