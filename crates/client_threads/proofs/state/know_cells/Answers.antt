use Rattle.std.proofs.Common.{below_more, get_or}
use Rattle.locked_nodes.specs.Cells.{CellView, KeptCell}
use Rattle.client_threads.proofs.Keepers.{at_any}
use Rattle.client_threads.proofs.state.know_cells.Goals as goal

pub loop-cell-preserved : goal.loop-cell-preserved
loop-cell-preserved c =
    let i = c.loop-cell.cell-index in
    let cells = c.args.cells.now in
    below_more (λ k. (d : CellView) → KeptCell (get_or cells k d)) i c.loop-cell.invariant (at_any KeptCell cells i c.cell-item.result c.loop-cell-test.true c.cell-item.is c.known.ensures)
