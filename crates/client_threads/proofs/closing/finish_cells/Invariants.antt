use Rattle.std.proofs.Common.{◌≡◌, ◌++◌, List, map, All}
use Rattle.std.specs.Vec.Iter.{into_iter_items, into_iter_len}
use Rattle.locked_nodes.specs.Cells.{CellView, KeptCell}
use Rattle.client_threads.specs.Running.{node_journals}
use Rattle.thread_work.proofs.lemmas.Places.{Walked}
use Rattle.client_threads.proofs.closing.finish_cells.Given as goal

-- the cells so far gave their journals and passes
abbrev pub invariant-loop-cell : goal.invariant-loop-cell
invariant-loop-cell l =
    (done : List CellView) × Walked l.fn.cells.items done (into_iter_items l.cell-iterator) (into_iter_len l.cell-iterator)
    × (l.nodes ≡ node_journals done l.count)
    × (l.passes ≡ l.fn.passes ++ map (λ c. c.pass) done)
    × All KeptCell done
