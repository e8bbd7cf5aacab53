use Rattle.std.proofs.Common.{◌≡◌, drop}
use Rattle.std.specs.List.{IsDistinct}
use Rattle.plan_words.specs.Named.{dropped_pairs, pair_eq}
use Rattle.plan_followed.specs.Asked.{drops}
use Rattle.client_duties.proofs.ways.drops_to.Given as goal

abbrev pub invariant-loop-rule : goal.invariant-loop-rule
invariant-loop-rule l = record {
  same : drops (drop l.rule-index l.rules) l.client l.node ≡ drops l.rules l.client l.node;
  distinct : IsDistinct pair_eq (dropped_pairs (drop l.rule-index l.rules));
}
