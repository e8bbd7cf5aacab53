use Rattle.std.proofs.Common.{◌≡◌, List, length}
use Rattle.std.specs.Vec.Iter.{into_iter_items, into_iter_len}
use Rattle.thread_work.proofs.lemmas.Places.{Walked}
use Rattle.phase_threads.specs.declared.duty.Seat.{Seat}
use Rattle.node_workers.specs.ThreadStates.{nodes_in, clients_in}
use Rattle.node_workers.specs.Opened.{IsClientOf}
use Rattle.node_workers.proofs.Opening.{UpTo, AreLeft}
use Rattle.node_workers.proofs.open.open_clients.Given as goal

-- the clients of the first seats are there
abbrev pub invariant-loop-seat : goal.invariant-loop-seat
invariant-loop-seat g l =
    (done : List (Seat g.row.T.Denot)) × Walked l.fn.seats.items done (into_iter_items l.seat-iterator) (into_iter_len l.seat-iterator)
    × UpTo (IsClientOf l.fn.boxes l.fn.putters.items) l.fn.seats.items (clients_in l.states.items)
    × (length (clients_in l.states.items) ≡ length done)
    × (nodes_in l.states.items ≡ nodes_in l.fn.states.items)
    × (l.number ≡ length done)
    × AreLeft l.fn.boxes l.takers.items (length done)
    × AreLeft l.fn.putters.items l.putters.items (length done)
