use Rattle.std.proofs.Common.{◌≡◌, drop, fold}
use Rattle.std.specs.List.{filter_map}
use Rattle.std.specs.Ordering.{nat_cmp}
use Rattle.std.specs.BTreeSet.{insert_key}
use Rattle.plan_words.specs.Named.{lying_client}
use Rattle.client_duties.proofs.named.add_lying.Given as goal

abbrev pub invariant-loop-rule : goal.invariant-loop-rule
invariant-loop-rule l = fold (insert_key nat_cmp) l.named.keys (filter_map lying_client (drop l.rule-index l.rules)) ≡ fold (insert_key nat_cmp) l.fn.named.keys (filter_map lying_client l.rules)
