use Rattle.std.proofs.Common.{◌≡◌, true, length}
use Rattle.inboxes.specs.Sides.{took}
use Rattle.client_endpoints.proofs.mail.ByMail.end.Given as goal

abbrev pub invariant-loop-inbox : goal.invariant-loop-inbox
invariant-loop-inbox g l = (l.self.seat ≡ l.fn.self.seat) × (l.self.answers ≡ l.fn.self.answers)

abbrev pub decreases-loop-inbox : goal.decreases-loop-inbox
decreases-loop-inbox g l = length l.self.asks.items

abbrev pub invariant-loop : goal.invariant-loop
invariant-loop g l =
    (l.self.seat ≡ l.fn.self.seat)
    × (l.self.answers.inbox ≡ l.fn.self.answers.inbox)
    × (l.self.answers.senders ≡ l.fn.self.answers.senders)
    × (l.none ≡ true → took l.self.answers ≡ took l.fn.self.answers)
