use Rattle.std.proofs.Common.{◌≡◌, drop}
use Rattle.plan_followed.specs.Asked.{client_crash}
use Rattle.client_duties.proofs.ways.client_crash_of.Given as goal

abbrev pub invariant-loop-rule : goal.invariant-loop-rule
invariant-loop-rule l = client_crash (drop l.rule-index l.rules) l.client ≡ client_crash l.rules l.client
