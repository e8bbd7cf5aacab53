use Rattle.std.proofs.Common.{◌≡◌, List, map, All}
use Rattle.std.specs.declared.option.Option.TheVariants.{None}
use Rattle.std.specs.Vec.Iter.{into_iter_items, into_iter_len}
use Rattle.thread_work.proofs.lemmas.Places.{Walked}
use Rattle.client_endpoints.specs.declared.mail.ByMail.{ByMail}
use Rattle.client_endpoints.specs.declared.transport.Transport.TheVariants.{Mail}
use Rattle.client_endpoints.specs.Endpoint.{Agree}
use Rattle.node_workers.specs.declared.thread_state.ThreadState.{ThreadState}
use Rattle.node_workers.specs.ThreadStates.{nodes_in, clients_in, seat_of}
use Rattle.node_workers.proofs.close.part.Given as goal

-- the thread states so far are parted
abbrev pub invariant-loop-state : goal.invariant-loop-state
invariant-loop-state g l =
    (done : List (ThreadState g.row.T.Denot)) × Walked l.fn.states.items done (into_iter_items l.state-iterator) (into_iter_len l.state-iterator)
    × (l.cells.items ≡ map (λ w. w.cell) (nodes_in done))
    × (l.rows.items ≡ map (λ w. w.sents) (nodes_in done))
    × (l.seats.items ≡ map seat_of (clients_in done))
    × (map (λ (m : ByMail). Mail m) l.mails.items ≡ map (λ x. x.0.transport) (clients_in done))
    × (l.refused ≡ None → All (λ x. x.0.refused ≡ None) (clients_in done))
    × All (λ x. x.0.refused ≡ None → Agree x.0.began x.0.desk x.0.transport) (clients_in done)
