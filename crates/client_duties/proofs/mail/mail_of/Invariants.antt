use Rattle.std.proofs.Common.{◌≡◌, ◌++◌, drop}
use Rattle.std.specs.List.{AllByRecursion}
use Rattle.plan_words.specs.Plans.{IsFault}
use Rattle.plan_followed.specs.Asked.{messages}
use Rattle.client_duties.proofs.mail.mail_of.Given as goal

abbrev pub invariant-loop-rule : goal.invariant-loop-rule
invariant-loop-rule l = record {
  sent : l.mail ++ messages l.config (drop l.rule-index l.rules) l.client ≡ messages l.config l.rules l.client;
  rules : AllByRecursion (IsFault l.config) (drop l.rule-index l.rules);
}
