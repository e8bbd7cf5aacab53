use Rattle.std.proofs.Common.{◌≡◌, ◌+◌, List, [], length, All}
use Rattle.std.specs.declared.option.Option.TheVariants.{None}
use Rattle.std.specs.Vec.Iter.{into_iter_items, into_iter_len}
use Rattle.receipt_lock.specs.Chits.{Holder as Chit}
use Rattle.locked_nodes.specs.declared.charter.Item.{Item}
use Rattle.phase_threads.specs.declared.duty.Seat.{Seat}
use Rattle.thread_work.specs.Pairwise.{Beside}
use Rattle.phase_threads.specs.ThreadStates.{clients_in, couriers_in}
use Rattle.phase_threads.specs.Phased.{IsClientOf}
use Rattle.thread_work.proofs.lemmas.Places.{Walked}
use Rattle.phase_threads.proofs.open.open_states.Given as goal

-- the seats so far have their portions
abbrev pub invariant-loop-seat : goal.invariant-loop-seat
invariant-loop-seat g l =
    (done : List (Seat g.row.T.Denot)) × Walked l.fn.seats.items done (into_iter_items l.seat-iterator) (into_iter_len l.seat-iterator)
    × (length l.portions.items ≡ into_iter_len l.seat-iterator + 1)
    × All (λ h. All (λ c. c.holds ≡ None) h) l.portions.items
    × All (λ h. All (λ c. c.mine ≡ []) h) l.portions.items
    × ((portion : List (Chit Item)) → All (λ h. h ≡ portion) l.fn.portions.items → All (λ h. h ≡ portion) l.portions.items × Beside (IsClientOf portion) done (clients_in l.states.items))
    × (couriers_in l.states.items ≡ [])
