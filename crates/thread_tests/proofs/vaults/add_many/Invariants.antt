use Rattle.std.proofs.Common.{◌≡◌, ◌+◌, length, None}
use Rattle.thread_tests.proofs.vaults.add_many.Given as goal

abbrev pub invariant-loop : goal.invariant-loop
invariant-loop g l =
    (l.chit.vault ≡ l.initial.chit.vault)
    × (l.chit.holds ≡ None)
    × (l.chit.left + l.counter ≡ l.initial.chit.left)
    × (length l.chit.mine ≡ length l.initial.chit.mine + l.counter)
