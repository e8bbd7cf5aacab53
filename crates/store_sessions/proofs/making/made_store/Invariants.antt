use Rattle.std.proofs.Common.{◌≡◌}
use Rattle.store_sessions.proofs.making.made_store.Given as goal

-- the store is one of the cluster
abbrev pub invariant-loop-number : goal.invariant-loop-number
invariant-loop-number l = l.store.config ≡ l.config
