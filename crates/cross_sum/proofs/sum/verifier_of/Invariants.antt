use Rattle.std.proofs.Common.{take}
use Rattle.sha2.specs.Hashers.{Holds256}
use Rattle.cross_sum.specs.Digest.{flat}
use Rattle.cross_sum.proofs.sum.verifier_of.Given as goal

abbrev pub invariant-loop-digest : goal.invariant-loop-digest
invariant-loop-digest l = Holds256 l.hasher (flat (take l.digest-index l.digests))
