use Rattle.std.proofs.Common.{◌≡◌, length}
use Rattle.store_tests.proofs.step.replies_to.Given as goal

-- one answer to each ask so far
abbrev pub invariant-loop-ask : goal.invariant-loop-ask
invariant-loop-ask l = length l.replies ≡ l.ask-index
