-- What threads have, and what they do.
use Rattle.std.specs.Prelude.{◌≡◌, List, [], ◌∷◌, reverse}
use Rattle.std.specs.declared.option.Option.TheVariants.{None}
use Rattle.receipt_lock.specs.Chits.{Holder as Chit}
use Rattle.locked_nodes.specs.declared.charter.Item.{Item}
use Rattle.locked_nodes.specs.declared.cell_shard.CellShard.{CellShard}
use Rattle.client_desks.specs.Desks.{DeskView}
use Rattle.client_endpoints.specs.declared.transport.Transport.{Transport}
use Rattle.client_endpoints.specs.declared.transport.Transport.TheVariants.{Locks, Mail}
use Rattle.client_endpoints.specs.Endpoint.{EndpointView, SharedCellsView, Fit}
use Rattle.phase_threads.specs.declared.courier.Courier.{Courier}
use Rattle.phase_threads.specs.declared.thread_state.ThreadState.{ThreadState}
use Rattle.phase_threads.specs.declared.thread_state.ThreadState.TheVariants.{Client, Courier as Carrier}
use Rattle.phase_threads.specs.declared.duty.Seat.{Seat}
use Rattle.phase_threads.specs.Carried.{CanCarry, HasCarried}
use Rattle.phase_threads.specs.Told.{GoesOn}

-- the chits of a transport
abbrev pub chits_of : Transport → List (Chit Item)
chits_of (Locks chits) = chits.items
chits_of (Mail m) = []

module _ {T : Type 0} where
  -- the clients among thread states: their endpoints and duties
  abbrev pub clients_in : List (ThreadState T) → List (EndpointView × T)
  clients_in [] = []
  clients_in (Client endpoint duty ∷ ps) = (endpoint, duty) ∷ clients_in ps
  clients_in (Carrier c ∷ ps) = clients_in ps

  -- the couriers among thread states
  abbrev pub couriers_in : List (ThreadState T) → List Courier
  couriers_in [] = []
  couriers_in (Client endpoint duty ∷ ps) = couriers_in ps
  couriers_in (Carrier c ∷ ps) = c ∷ couriers_in ps

  -- a client's desk with its duty
  abbrev pub seat_of : EndpointView × T → Seat T
  seat_of x = record { desk = x.0.desk; duty = x.1 }

  -- the chits of a thread state, by the vaults' order, and the last one first
  abbrev pub chits_in : ThreadState T → List (Chit Item)
  chits_in (Client endpoint duty) = chits_of endpoint.transport
  chits_in (Carrier c) = c.chits.items

  abbrev pub hand_of : ThreadState T → List (Chit Item)
  hand_of p = reverse (chits_in p)

  -- a client is ready to do its duty
  pub record IsReady (can : T → List CellShard → DeskView → Type 0) (of : SharedCellsView) (endpoint : EndpointView) (duty : T) : Type 0 where
    pub fit : Fit endpoint of
    pub sound : endpoint.refused ≡ None
    pub ready : can duty of.cell_shards endpoint.desk

  -- a client went on, and has done its duty if no refusal came
  pub record HasDone (did : T → DeskView → T → DeskView → Type 0) (endpoint : EndpointView) (duty : T) (after : EndpointView) (left : T) : Type 0 where
    pub goes : GoesOn endpoint after
    pub done : after.refused ≡ None → did duty endpoint.desk left after.desk

  -- a thread state whose thread can work: a client that is ready to do its duty, or a courier that can carry
  abbrev pub CanWork : (T → List CellShard → DeskView → Type 0) → SharedCellsView → ThreadState T → Type 0
  CanWork ready of (Client endpoint duty) = IsReady ready of endpoint duty
  CanWork ready of (Carrier c) = CanCarry of c

  -- a thread state before its thread worked, and after it: a client has done its duty, or the courier has carried
  abbrev pub DidWork : (T → DeskView → T → DeskView → Type 0) → ThreadState T → ThreadState T → Type 0
  DidWork done (Client endpoint duty) (Client after left) = HasDone done endpoint duty after left
  DidWork done (Client endpoint duty) (Carrier d) = ⊥
  DidWork done (Carrier c) (Client after left) = ⊥
  DidWork done (Carrier c) (Carrier d) = HasCarried c d
