use Rattle.std.proofs.Common.{◌≡◌, drop}
use Rattle.std.specs.List.{list_any}
use Rattle.phase_threads.specs.Standing.{needs_whole}
use Rattle.client_threads.proofs.opening.shard_count.Given as goal

abbrev pub invariant-loop-rule : goal.invariant-loop-rule
invariant-loop-rule l = list_any (needs_whole l.node) (drop l.rule-index l.plan.rules) ≡ list_any (needs_whole l.node) l.plan.rules
