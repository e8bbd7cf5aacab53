use Rattle.std.proofs.Common.{◌≡◌, ◌≤◌, ◌-◌, length, map, take}
use Rattle.cross_sum.specs.Digest.{digest}
use Rattle.cross_sum.proofs.digests.digests_of.Given as goal

abbrev pub invariant-groups : goal.invariant-groups
invariant-groups l = (l.done ≤ length l.strings) × (l.digests.items ≡ map digest (take l.done l.strings))

abbrev pub decreases-groups : goal.decreases-groups
decreases-groups l = length l.strings - l.done
