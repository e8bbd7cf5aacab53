use Rattle.std.proofs.Common.{sym, subst, ap, ◌∙◌}
use Rattle.locked_nodes.specs.Cells.{CellView, Serves, HoldsWhole}
use Rattle.locked_nodes.proofs.lemmas.Growing.{cell_steps, node_is}
use Rattle.locked_nodes.proofs.cell.NodeCell.answer.Goals as goal

pub act-requires-clause-node : goal.act-requires-clause-node
act-requires-clause-node c =
    let was = c.self.inside in
    c.requires.ask.0 ∙ ap (λ (v : CellView). v.charter.number) (sym c.self.view_is) ∙ sym (node_is was.terms was.state was.journal.items was.pass c.self.invariant).1

pub invariant_of-self-2 : goal.invariant_of-self-2
invariant_of-self-2 c =
    let was = c.self.inside in
    let serves = subst (λ (v : CellView). Serves v.charter c.args.ask.now) (sym c.self.view_is) c.requires.ask in
    let whole = subst (λ (v : CellView). HoldsWhole v.charter c.args.way) (sym c.self.view_is) c.requires.whole in
    cell_steps c.acts.ensures.calls was.terms was.state was.journal.items was.pass c.nature.result c.args.way c.args.ask.now c.add_entry-number.result c.in_ok-act.act c.act.new.self c.reserve.new.self.items c.add_entry-number.new.journal.items c.add_entry-number.new.pass
    c.self.invariant c.nature.ensures serves whole c.add_entry-number.ensures.later.0 c.in_ok-act.ensures.act c.in_ok-act.ensures.ok c.reserve.ensures.items c.add_entry-number.ensures.journal c.add_entry-number.ensures.pass
