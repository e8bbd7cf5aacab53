-- What threads have, by mail, and what they do.
use Rattle.std.specs.Prelude.{◌≡◌, List, [], ◌∷◌, map}
use Rattle.std.specs.declared.option.Option.TheVariants.{None}
use Rattle.locked_nodes.specs.declared.cell_shard.CellShard.{CellShard}
use Rattle.locked_nodes.specs.Cells.{CellView}
use Rattle.client_desks.specs.Desks.{DeskView}
use Rattle.client_desks.specs.Later.{IsLater}
use Rattle.client_endpoints.specs.declared.mail.ByMail.{ByMail}
use Rattle.client_endpoints.specs.declared.transport.Transport.{Transport}
use Rattle.client_endpoints.specs.declared.transport.Transport.TheVariants.{Mail}
use Rattle.client_endpoints.specs.Asking.{HasEnded}
use Rattle.client_endpoints.specs.Endpoint.{EndpointView, SharedCellsView, Fit}
use Rattle.node_workers.specs.Workers.{WorkerView, CanServe, HasServed}
use Rattle.phase_threads.specs.declared.duty.Seat.{Seat}
use Rattle.node_workers.specs.declared.thread_state.ThreadState.{ThreadState}
use Rattle.node_workers.specs.declared.thread_state.ThreadState.TheVariants.{Client, Node}

module _ {T : Type 0} where
  -- the nodes among thread states
  abbrev pub nodes_in : List (ThreadState T) → List WorkerView
  nodes_in [] = []
  nodes_in (Node w ∷ ps) = w ∷ nodes_in ps
  nodes_in (Client endpoint duty ∷ ps) = nodes_in ps

  -- the clients among thread states: their endpoints and duties
  abbrev pub clients_in : List (ThreadState T) → List (EndpointView × T)
  clients_in [] = []
  clients_in (Node w ∷ ps) = clients_in ps
  clients_in (Client endpoint duty ∷ ps) = (endpoint, duty) ∷ clients_in ps

  -- a client's desk with its duty
  abbrev pub seat_of : EndpointView × T → Seat T
  seat_of x = record { desk = x.0.desk; duty = x.1 }

  -- the cells and the seats among thread states
  abbrev pub cells_at : List (ThreadState T) → List CellView
  cells_at states = map (λ w. w.cell) (nodes_in states)

  abbrev pub seats_at : List (ThreadState T) → List (Seat T)
  seats_at states = map seat_of (clients_in states)

-- by mail the last word of each node was taken
abbrev pub HasTakenAll : Transport → Transport → Type 0
HasTakenAll old new = (m : ByMail) → old ≡ Mail m → (n : ByMail) × (new ≡ Mail n) × HasEnded m n

module _ {T : Type 0} where
  -- a client is ready to do its duty
  pub record IsReady (can : T → List CellShard → DeskView → Type 0) (of : SharedCellsView) (endpoint : EndpointView) (duty : T) : Type 0 where
    pub fit : Fit endpoint of
    pub sound : endpoint.refused ≡ None
    pub ready : can duty of.cell_shards endpoint.desk

  -- a client went on, has done its duty if no refusal came, and has taken all its answers
  pub record HasDone (did : T → DeskView → T → DeskView → Type 0) (endpoint : EndpointView) (duty : T) (after : EndpointView) (left : T) : Type 0 where
    pub later : IsLater endpoint.desk after.desk
    pub began : after.began ≡ endpoint.began
    pub done : after.refused ≡ None → did duty endpoint.desk left after.desk
    pub all : HasTakenAll endpoint.transport after.transport

  -- a thread state whose thread can work: a client that is ready to do its duty, or a worker that can serve
  abbrev pub CanWork : (T → List CellShard → DeskView → Type 0) → SharedCellsView → ThreadState T → Type 0
  CanWork ready of (Client endpoint duty) = IsReady ready of endpoint duty
  CanWork ready of (Node w) = CanServe of.clock w

  -- a thread state before its thread worked, and after it: a client has done its duty, or a worker has served
  abbrev pub DidWork : (T → DeskView → T → DeskView → Type 0) → ThreadState T → ThreadState T → Type 0
  DidWork done (Client endpoint duty) (Client after left) = HasDone done endpoint duty after left
  DidWork done (Client endpoint duty) (Node v) = ⊥
  DidWork done (Node w) (Client after left) = ⊥
  DidWork done (Node w) (Node v) = HasServed w v
