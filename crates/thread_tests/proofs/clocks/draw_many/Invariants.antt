use Rattle.std.proofs.Common.{◌≡◌, ◌+◌, length}
use Rattle.thread_tests.proofs.clocks.draw_many.Given as goal

abbrev pub invariant-loop : goal.invariant-loop
invariant-loop l =
    (l.pass.clock ≡ l.initial.pass.clock)
    × (length l.pass.drawn ≡ length l.initial.pass.drawn + l.counter)
