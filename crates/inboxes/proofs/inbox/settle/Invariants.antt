use Rattle.std.proofs.Common.{◌≡◌, length, All}
use Rattle.inboxes.specs.Sides.{IsSettled}
use Rattle.inboxes.proofs.inbox.settle.Given as goal

abbrev pub invariant-loop-sent : goal.invariant-loop-sent
invariant-loop-sent g l =
    (l.taker ≡ l.initial.taker)
    × All (λ s. s.inbox ≡ l.initial.taker.inbox) l.sents
    × (All (IsSettled l.initial.taker) l.sents → All (IsSettled l.initial.taker) l.initial.sents)

abbrev pub decreases-loop-sent : goal.decreases-loop-sent
decreases-loop-sent g l = length l.sents
