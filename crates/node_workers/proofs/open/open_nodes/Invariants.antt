use Rattle.std.proofs.Common.{◌≡◌, List, [], length, map}
use Rattle.std.specs.Vec.Iter.{into_iter_items, into_iter_len}
use Rattle.thread_work.proofs.lemmas.Places.{Walked}
use Rattle.locked_nodes.specs.Cells.{CellView}
use Rattle.node_workers.specs.Workers.{WorkerView}
use Rattle.node_workers.specs.Portions.{AreSpread}
use Rattle.node_workers.specs.ThreadStates.{nodes_in, clients_in}
use Rattle.node_workers.specs.Opened.{IsWorkerOf}
use Rattle.node_workers.proofs.Opening.{UpTo, AreLeft}
use Rattle.node_workers.proofs.open.open_nodes.Given as goal

-- the workers of the first cells are there
abbrev pub invariant-loop-cell : goal.invariant-loop-cell
invariant-loop-cell g l =
    (done : List CellView) × Walked l.fn.cells.items done (into_iter_items l.cell-iterator) (into_iter_len l.cell-iterator)
    × UpTo (IsWorkerOf l.clock l.clients l.fn.answer_putters.items) l.fn.cells.items (nodes_in l.states.items)
    × (length (nodes_in l.states.items) ≡ length done)
    × (clients_in l.states.items ≡ [])
    × AreSpread (length l.clients) (map (λ (w : WorkerView). w.asks) (nodes_in l.states.items)) l.putters.items
    × AreLeft l.fn.answer_putters.items l.answer_putters.items (length done)
