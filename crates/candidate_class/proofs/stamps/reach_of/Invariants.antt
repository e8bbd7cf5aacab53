use Rattle.std.proofs.Common.{◌≡◌, ◌≤◌}
use Rattle.stamp_order.specs.Stamps.{up_to}
use Rattle.protocol.specs.Count.{count}
use Rattle.protocol.specs.Reach.{reaches}
use Rattle.candidate_class.specs.Stamps.{stamp_at}
use Rattle.candidate_class.proofs.stamps.reach_of.Given as goal

abbrev pub invariant-loop-other : goal.invariant-loop-other
invariant-loop-other l = (l.reach ≡ count l.other-index (λ i. reaches up_to l.stamp (stamp_at l.stamps i))) × (l.reach ≤ l.other-index)
