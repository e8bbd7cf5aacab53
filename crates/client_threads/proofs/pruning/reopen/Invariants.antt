use Rattle.std.proofs.Common.{◌≡◌, List, All}
use Rattle.std.specs.Vec.Iter.{into_iter_items, into_iter_len}
use Rattle.locked_nodes.specs.Cells.{CellView, KeptCell}
use Rattle.client_threads.specs.Pruned.{reopened}
use Rattle.thread_work.proofs.lemmas.Places.{Walked}
use Rattle.client_threads.proofs.pruning.reopen.Given as goal

-- the cells so far have their next charters
abbrev pub invariant-loop-cell : goal.invariant-loop-cell
invariant-loop-cell l =
    (done : List CellView) × Walked l.fn.cells.items done (into_iter_items l.cell-iterator) (into_iter_len l.cell-iterator)
    × (l.opened.items ≡ reopened done)
    × All KeptCell l.opened.items
