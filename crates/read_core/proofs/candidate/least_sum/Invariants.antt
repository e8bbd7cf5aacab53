use Rattle.std.proofs.Common.{◌≡◌, []}
use Rattle.protocol.specs.Count.{collect}
use Rattle.read_core.specs.Candidates.{carrier}
use Rattle.read_core.proofs.candidate.least_sum.Given as goal

abbrev pub invariant-loop-i : goal.invariant-loop-i
invariant-loop-i l = collect l.i (carrier l.answers l.stamps l.stamp) ≡ []
