-- Thread states whose threads have all worked, and what is made of them.
use Rattle.std.specs.Prelude.{◌≡◌, List, map, All}
use Rattle.std.specs.declared.option.Option.TheVariants.{None}
use Rattle.thread_work.specs.Pairwise.{Beside}
use Rattle.inboxes.specs.Sides.{IsDone}
use Rattle.client_endpoints.specs.declared.mail.ByMail.{ByMail}
use Rattle.client_endpoints.specs.declared.transport.Transport.TheVariants.{Mail}
use Rattle.client_endpoints.specs.Transports.{IsByMail}
use Rattle.client_endpoints.specs.Endpoint.{Agree}
use Rattle.phase_threads.specs.declared.phase.Left.{Left}
use Rattle.node_workers.specs.declared.thread_state.ThreadState.{ThreadState}
use Rattle.node_workers.specs.ThreadStates.{nodes_in, clients_in, seat_of}
use Rattle.node_workers.specs.Closed.{IsOfMail, HasAllOf}

module _ {T : Type 0} where
  -- the ways by mail of the clients among thread states
  abbrev pub AreWays : List (ThreadState T) → List ByMail → Type 0
  AreWays states mails = map (λ m. Mail m) mails ≡ map (λ x. x.0.transport) (clients_in states)

  -- the clients went by mail, and took all that was put; each node's putters go to the clients' inboxes
  pub record MayClose (states : List (ThreadState T)) : Type 0 where
    pub ways : All (λ x. IsByMail x.0.transport) (clients_in states)
    pub done : (mails : List ByMail) → AreWays states mails → All (λ m. IsDone m.answers) mails
    pub own : (mails : List ByMail) → AreWays states mails → All (λ r. Beside IsOfMail mails r) (map (λ w. w.sents) (nodes_in states))

  -- no refusal came, and what was taken of each putter is what was put into it
  pub record HaveSettled (states : List (ThreadState T)) : Type 0 where
    pub mails : List ByMail
    pub ways : AreWays states mails
    pub settled : All (λ r. Beside HasAllOf mails r) (map (λ w. w.sents) (nodes_in states))
    pub sound : All (λ x. x.0.refused ≡ None) (clients_in states)
    pub agree : All (λ x. x.0.refused ≡ None → Agree x.0.began x.0.desk x.0.transport) (clients_in states)

  -- what thread states leave: their cells, and their desks with their duties
  pub record HasClosed (states : List (ThreadState T)) (left : Left T) : Type 0 where
    pub cells : left.cells.items ≡ map (λ w. w.cell) (nodes_in states)
    pub seats : left.seats.items ≡ map seat_of (clients_in states)
    pub settled : left.refused ≡ None → HaveSettled states
