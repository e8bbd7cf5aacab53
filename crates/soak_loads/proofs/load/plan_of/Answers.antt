use Rattle.std.proofs.Common.{ℕ, List, ap, ◌∙◌}
use Rattle.std.specs.Ordering.{nat_cmp}
use Rattle.std.specs.BTreeSet.{insert_key}
use Rattle.soak_loads.proofs.Fitting.{parts_fit}
use Rattle.soak_loads.proofs.load.plan_of.Goals as goal

pub returns-clause-fits : goal.returns-clause-fits
returns-clause-fits c =
    parts_fit c.args.number c.args.clients c.args.ops c.requires.some c.requires.clients c.requires.ops _ _ _ _ c.cluster.ensures
    (c.in_ok-add_node.ensures.ok ∙ ap (λ (ks : List ℕ). insert_key nat_cmp ks 4) c.none-liars.ensures.nodes) (c.add_node.ensures.clients ∙ c.none-liars.ensures.clients)
    c.in_ok-rules.ensures c.in_ok-work.ensures
