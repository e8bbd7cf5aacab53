use Rattle.std.proofs.Common.{◌≡◌, drop}
use Rattle.plan_followed.specs.Asked.{crash_after}
use Rattle.client_duties.proofs.conduct.crash_after.Given as goal

abbrev pub invariant-loop-rule : goal.invariant-loop-rule
invariant-loop-rule l = crash_after (drop l.rule-index l.plan.rules) l.node ≡ crash_after l.plan.rules l.node
