use Rattle.std.proofs.Common.{◌≡◌, ◌+◌, length, All}
use Rattle.client_threads.specs.Opened.{IsUnusedPass, AreNewCells, cell_count}
use Rattle.client_threads.proofs.opening.open_cells.Given as goal

-- the cells of the nodes so far are new
abbrev pub invariant-loop-number : goal.invariant-loop-number
invariant-loop-number l = record {
  cells : AreNewCells l.plan l.shards l.clock l.number 0 l.cells.items;
  unused : All (IsUnusedPass l.clock) l.passes;
  left : length l.passes + cell_count l.plan l.shards l.number ≡ length l.fn.passes;
}
