use Rattle.std.proofs.Common.{sym, subst}
use Rattle.locked_nodes.specs.Cells.{IsCell}
use Rattle.locked_nodes.proofs.lemmas.Growing.{cell_meets}
use Rattle.locked_nodes.proofs.cell.NodeCell.meet.Goals as goal

pub invariant_of-self : goal.invariant_of-self
invariant_of-self c =
    let was = c.self.inside in
    subst (IsCell was.terms was.state was.journal.items) (sym c.meet.ensures.one) (cell_meets was.terms was.state was.journal.items was.pass c.args.caller.now c.self.invariant)
