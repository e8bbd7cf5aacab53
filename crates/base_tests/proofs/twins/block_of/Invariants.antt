use Rattle.std.proofs.Common.{◌≡◌, length}
use Rattle.base_tests.proofs.twins.block_of.Given as goal

abbrev pub invariant-loop : goal.invariant-loop
invariant-loop l = length l.bytes.items ≡ l.counter
