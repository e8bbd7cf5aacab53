use Rattle.std.proofs.Common.{◌≡◌, drop}
use Rattle.plan_followed.specs.Asked.{nature}
use Rattle.client_duties.proofs.conduct.nature_of.Given as goal

abbrev pub invariant-loop-rule : goal.invariant-loop-rule
invariant-loop-rule l = nature (drop l.rule-index l.plan.rules) l.node ≡ nature l.plan.rules l.node
