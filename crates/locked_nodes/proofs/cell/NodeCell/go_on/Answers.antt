use Rattle.std.proofs.Common.{◌≡◌, length, sym, subst, ap, ◌∙◌, rules}
use Rattle.locked_nodes.specs.Cells.{CellView, IsCell, next_terms}
use Rattle.locked_nodes.proofs.lemmas.Growing.{cell_goes_on}
use Rattle.locked_nodes.proofs.cell.NodeCell.go_on.Goals as goal

pub invariant_of-result : goal.invariant_of-result
invariant_of-result c =
    let was = c.self.inside in
    let cell : CellView = record { charter = was.terms; journal = was.journal.items; pass = was.pass } in
    let base : c.len.result ≡ length was.journal.items = search rules in
    let is = c.next-terms.ensures ∙ ap (λ b. next_terms was.terms was.pass b c.args.prunes) base in
    subst (λ t. IsCell t was.state was.journal.items was.pass) (sym is) (cell_goes_on cell was.state c.args.prunes c.self.invariant)
