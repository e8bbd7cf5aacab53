use Rattle.std.proofs.Common.{◌≡◌, ◌++◌, take}
use Rattle.cross_sum.specs.Digest.{flat}
use Rattle.slab_codec.proofs.data.write_digests.Given as goal

abbrev pub invariant-loop-digest : goal.invariant-loop-digest
invariant-loop-digest l = l.piece.items ≡ l.fn.piece.items ++ flat (take l.digest-index l.list)
