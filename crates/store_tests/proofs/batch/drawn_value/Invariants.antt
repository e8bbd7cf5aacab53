use Rattle.std.proofs.Common.{◌≡◌, length}
use Rattle.store_tests.proofs.batch.drawn_value.Given as goal

-- a byte was drawn for each number so far
abbrev pub invariant-loop-k : goal.invariant-loop-k
invariant-loop-k l = length l.value.items ≡ l._k
