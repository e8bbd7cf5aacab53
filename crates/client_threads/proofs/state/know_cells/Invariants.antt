use Rattle.std.proofs.Common.{ℕ, ◌<◌, get_or}
use Rattle.locked_nodes.specs.Cells.{CellView, KeptCell}
use Rattle.client_threads.proofs.state.know_cells.Given as goal

abbrev pub invariant-loop-cell : goal.invariant-loop-cell
invariant-loop-cell l = (k : ℕ) → k < l.cell-index → (d : CellView) → KeptCell (get_or l.cells k d)
