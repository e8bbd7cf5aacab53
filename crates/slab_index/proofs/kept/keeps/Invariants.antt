use Rattle.std.proofs.Common.{◌≡◌, ◌-◌, drop, length}
use Rattle.slab_index.specs.Kept.{keeps_stamp}
use Rattle.slab_index.proofs.kept.keeps.Given as goal

abbrev pub invariant-loop-i : goal.invariant-loop-i
invariant-loop-i l = l.found ≡ keeps_stamp (drop (length l.kept - l.i) l.kept) l.stamp
