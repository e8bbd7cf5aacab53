use Rattle.std.proofs.Common.{◌≡◌, drop}
use Rattle.std.specs.List.{IsDistinct}
use Rattle.plan_words.specs.Named.{held_pairs, pair_eq}
use Rattle.plan_followed.specs.Asked.{holds}
use Rattle.client_duties.proofs.ways.holds_to.Given as goal

abbrev pub invariant-loop-rule : goal.invariant-loop-rule
invariant-loop-rule l = record {
  same : holds (drop l.rule-index l.rules) l.client l.node ≡ holds l.rules l.client l.node;
  distinct : IsDistinct pair_eq (held_pairs (drop l.rule-index l.rules));
}
