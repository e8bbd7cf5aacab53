use Rattle.std.proofs.Common.{◌≡◌, map, take}
use Rattle.cross_sum.specs.Digest.{digest}
use Rattle.cross_sum.proofs.Runs.{digests_from}
use Rattle.cross_sum.proofs.sum.CrossSum.of_blocks.Given as goal

abbrev pub invariant-loop-shares : goal.invariant-loop-shares
invariant-loop-shares l = (l.rest ≡ digests_from l.shares-index l.blocks) × (l.sums.items ≡ map (map digest) (take l.shares-index l.blocks))
