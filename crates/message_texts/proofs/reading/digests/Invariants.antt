use Rattle.std.proofs.Common.{◌≡◌, ◌*◌, length, take, All}
use Rattle.cross_sum.specs.Digest.{flat}
use Rattle.message_texts.proofs.reading.digests.Given as goal

abbrev pub invariant-loop-i : goal.invariant-loop-i
invariant-loop-i l = (flat l.digests.items ≡ take (32 * l.i) l.bytes) × All (λ d. length d ≡ 32) l.digests.items
