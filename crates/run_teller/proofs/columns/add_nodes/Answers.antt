use Rattle.std.proofs.Common.{List, [], ◌∷◌, ◌++◌, sym, ap, ◌∙◌, append_assoc, zero-add}
use Rattle.std.proofs.lemmas.List.{append-nil}
use Rattle.std.proofs.lemmas.List.FromFn.{map-range_with_len_more}
use Rattle.picture_svg.specs.declared.picture.Lifeline.{Lifeline}
use Rattle.run_teller.specs.Columns.{node_column, node_columns}
use Rattle.run_teller.proofs.columns.add_nodes.Goals as goal

pub loop-node-init : goal.loop-node-init
loop-node-init c = sym (append-nil c.args.columns.now.items)

pub loop-node-preserved : goal.loop-node-preserved
loop-node-preserved c =
    let old = c.args.columns.now.items in
    let liars = c.args.liars.now in
    let node = c.loop-node.node in
    c.in_ok-add_node.ensures
    ∙ ap (λ (x : List Lifeline). x ++ node_column liars node ∷ []) c.loop-node.invariant
    ∙ append_assoc old (node_columns node liars) (node_column liars node ∷ [])
    ∙ ap (λ (x : List Lifeline). old ++ x) (sym (map-range_with_len_more (node_column liars) 0 node node (zero-add node)))
