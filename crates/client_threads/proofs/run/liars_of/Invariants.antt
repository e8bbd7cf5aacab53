use Rattle.std.proofs.Common.{◌≡◌, drop, fold}
use Rattle.std.specs.List.{filter_map}
use Rattle.std.specs.Ordering.{nat_cmp}
use Rattle.std.specs.BTreeSet.{insert_key}
use Rattle.plan_words.specs.Named.{lying_node, lying_nodes, lying_client, lying_clients, ascending}
use Rattle.client_threads.proofs.run.liars_of.Given as goal

abbrev pub invariant-loop-rule : goal.invariant-loop-rule
invariant-loop-rule l = record {
  nodes : fold (insert_key nat_cmp) l.liars.nodes (filter_map lying_node (drop l.rule-index l.plan.rules)) ≡ ascending (lying_nodes l.plan.rules);
  clients : fold (insert_key nat_cmp) l.liars.clients (filter_map lying_client (drop l.rule-index l.plan.rules)) ≡ ascending (lying_clients l.plan.rules);
}
