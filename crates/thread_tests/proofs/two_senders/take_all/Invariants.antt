use Rattle.std.proofs.Common.{◌≡◌, false}
use Rattle.inboxes.specs.Sides.{took}
use Rattle.thread_tests.proofs.two_senders.take_all.Given as goal

abbrev pub invariant-loop : goal.invariant-loop
invariant-loop g l =
    (l.taker.inbox ≡ l.initial.taker.inbox)
    × (l.lost ≡ false → l.items.items ≡ took l.taker)
