use Rattle.std.proofs.Common.{◌≡◌, ◌≤◌}
use Rattle.protocol.specs.Count.{count}
use Rattle.candidate_class.specs.Stamps.{stamp_at, is_stamp}
use Rattle.candidate_class.proofs.stamps.support_of.Given as goal

abbrev pub invariant-loop-other : goal.invariant-loop-other
invariant-loop-other l = (l.support ≡ count l.other-index (λ i. is_stamp l.stamp (stamp_at l.stamps i))) × (l.support ≤ l.other-index)
