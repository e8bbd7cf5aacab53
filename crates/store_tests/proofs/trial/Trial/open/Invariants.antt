use Rattle.std.proofs.Common.{◌≡◌}
use Rattle.store_tests.proofs.trial.Trial.open.Given as goal

-- the store is one of the cluster
abbrev pub invariant-loop-number : goal.invariant-loop-number
invariant-loop-number l = l.store.config ≡ l.config
