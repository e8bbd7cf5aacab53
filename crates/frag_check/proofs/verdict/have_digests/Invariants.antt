use Rattle.std.proofs.Common.{◌≡◌, ◌<◌, ℕ, [], Some, get_or}
use Rattle.std.specs.List.{slice_get}
use Rattle.cross_sum.specs.Digest.{digest}
use Rattle.frag_check.proofs.verdict.have_digests.Given as goal

abbrev pub invariant-loop-i : goal.invariant-loop-i
invariant-loop-i l = (k : ℕ) → k < l.i → slice_get l.sum k ≡ Some (digest (get_or l.shares k []))
