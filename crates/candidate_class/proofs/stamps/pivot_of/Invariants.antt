use Rattle.std.proofs.Common.{◌≡◌, length}
use Rattle.stamp_order.specs.Stamps.{up_to}
use Rattle.protocol.specs.Reach.{greatest, if_reached}
use Rattle.candidate_class.specs.Stamps.{stamp_at}
use Rattle.candidate_class.proofs.stamps.pivot_of.Given as goal

abbrev pub invariant-loop-stamp : goal.invariant-loop-stamp
invariant-loop-stamp l = l.pivot ≡ greatest up_to l.stamp-index (λ i. if_reached up_to (length l.stamps) (stamp_at l.stamps) l.repairable (stamp_at l.stamps i))
