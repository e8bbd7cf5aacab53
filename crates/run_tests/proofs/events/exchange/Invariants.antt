use Rattle.std.proofs.Common.{◌≡◌}
use Rattle.run_tests.proofs.events.exchange.Given as goal

-- the cluster stays the same
abbrev pub invariant-loop-node : goal.invariant-loop-node
invariant-loop-node l = l.world.config ≡ l.fn.world.config

abbrev pub invariant-loop-message : goal.invariant-loop-message
invariant-loop-message l = l.world.config ≡ l.fn.world.config
