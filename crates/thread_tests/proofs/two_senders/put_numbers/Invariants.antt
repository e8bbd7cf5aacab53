use Rattle.std.proofs.Common.{◌≡◌, map}
use Rattle.std.specs.List.{range_with_len}
use Rattle.thread_tests.proofs.two_senders.put_numbers.Given as goal

abbrev pub invariant-loop-value : goal.invariant-loop-value
invariant-loop-value g l =
    (l.putter.inbox ≡ l.initial.putter.inbox)
    × (l.putter.number ≡ l.initial.putter.number)
    × (map (λ n. n.value) l.putter.put ≡ range_with_len 0 l.value)
