use Rattle.std.proofs.Common.{◌≡◌, List, map, All}
use Rattle.std.specs.declared.option.Option.TheVariants.{None}
use Rattle.std.specs.Vec.Iter.{into_iter_items, into_iter_len}
use Rattle.client_endpoints.specs.Transports.{AtRest}
use Rattle.client_endpoints.specs.Endpoint.{Agree}
use Rattle.phase_threads.specs.declared.thread_state.ThreadState.{ThreadState}
use Rattle.phase_threads.specs.ThreadStates.{clients_in, seat_of, hand_of}
use Rattle.thread_work.proofs.lemmas.Places.{Walked}
use Rattle.phase_threads.proofs.close.part.Given as goal

-- the thread states so far are parted
abbrev pub invariant-loop-state : goal.invariant-loop-state
invariant-loop-state g l =
    (done : List (ThreadState g.row.T.Denot)) × Walked l.fn.states.items done (into_iter_items l.state-iterator) (into_iter_len l.state-iterator)
    × (l.seats.items ≡ map seat_of (clients_in done))
    × (l.portions.items ≡ map hand_of done)
    × (l.refused ≡ None → All (λ x. x.0.refused ≡ None) (clients_in done))
    × All (λ x. AtRest x.0.transport) (clients_in done)
    × All (λ x. x.0.refused ≡ None → Agree x.0.began x.0.desk x.0.transport) (clients_in done)
