use Rattle.std.proofs.Common.{◌≡◌}
use Rattle.store_tests.proofs.trial.Trial.count_up.Given as goal

-- the store is the same
abbrev pub invariant-loop-i : goal.invariant-loop-i
invariant-loop-i l = l.store.config ≡ l.fn.store.config
