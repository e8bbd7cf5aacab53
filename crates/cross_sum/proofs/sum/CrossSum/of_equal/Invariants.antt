use Rattle.std.proofs.Common.{◌≡◌, map, replicate}
use Rattle.cross_sum.specs.Digest.{digest}
use Rattle.cross_sum.proofs.sum.CrossSum.of_equal.Given as goal

abbrev pub invariant-loop : goal.invariant-loop
invariant-loop l = (l.strings.items ≡ replicate l.counter l.part) × (l.digests.items ≡ map digest l.strings.items)
