-- Thread states as they were, taken apart again.
use Rattle.std.proofs.Common.{◌≡◌, ℕ, List, map, sym, ap, subst, ◌∙◌}
use Rattle.std.specs.declared.result.Result.{Result}
use Rattle.std.specs.declared.result.Result.TheVariants.{Ok, Err}
use Rattle.std.specs.Prelude.{All, IfOk}
use Rattle.std.proofs.lemmas.List.{length-map}
use Rattle.quorum_rules.specs.Limits.{Numbers}
use Rattle.thread_work.proofs.lemmas.Places.{all_from_places, map_get, beside_right, beside_left}
use Rattle.event_clock.specs.Passes.{ClockId}
use Rattle.inboxes.specs.Sides.{Putting, Taking}
use Rattle.locked_nodes.specs.Cells.{CellView}
use Rattle.client_endpoints.specs.declared.asked.Asked.{Asked}
use Rattle.client_endpoints.specs.declared.asked.NodePlace.{NodePlace}
use Rattle.client_endpoints.specs.declared.answered.Answered.{Answered}
use Rattle.client_endpoints.specs.declared.answered.ClientPlace.{ClientPlace}
use Rattle.client_endpoints.specs.Transports.{IsByMail}
use Rattle.client_endpoints.specs.Endpoint.{EndpointView, SharedCellsView}
use Rattle.node_workers.specs.Workers.{AnswerPutter, WorkerView}
use Rattle.locked_nodes.specs.declared.cell_shard.CellShard.{CellShard}
use Rattle.client_desks.specs.Desks.{DeskView}
use Rattle.phase_threads.specs.declared.duty.Seat.{Seat}
use Rattle.phase_threads.specs.declared.phase.Left.{Left}
use Rattle.phase_threads.specs.Phases.{MayPhase, HasPhased}
use Rattle.node_workers.specs.Opened.{IsWorkerOf, IsClientOf, ids_of, Opened, AreStates}
use Rattle.node_workers.specs.declared.thread_state.ThreadState.{ThreadState}
use Rattle.node_workers.specs.ThreadStates.{seat_of, nodes_in, clients_in, cells_at, seats_at}
use Rattle.node_workers.proofs.Locking.{beside_map, map_id, again, may_again, phased_again}

pub ok_also : {T E : Type 0} (P Q : T → Type 0) (r : Result T E) → ((x : T) → P x → Q x) → IfOk r P → IfOk r Q
ok_also P Q (Ok x) f has = f x has
ok_also P Q (Err e) f has = has

-- what a phase left of these cells and seats it left of the same ones
pub phased_as : {T E : Type 0} (done : T → DeskView → T → DeskView → Type 0) (of : ClockId) (cells : List CellView) (seats : List (Seat T)) (now : List CellView) (are : List (Seat T)) → now ≡ cells → are ≡ seats → (r : Result (ClockId × Left T) E)
    → IfOk r (λ p. HasPhased done of now are p.0 p.1) → IfOk r (λ p. HasPhased done of cells seats p.0 p.1)
phased_as {T = T} done of cells seats now are is same r has =
    ok_also (λ (p : ClockId × Left T). HasPhased done of now are p.0 p.1) (λ (p : ClockId × Left T). HasPhased done of cells seats p.0 p.1) r
    (λ p phased. subst (λ (l : List (Seat T)). HasPhased done of cells l p.0 p.1) same (subst (λ (l : List CellView). HasPhased done of l are p.0 p.1) is phased)) has

module _ {T : Type 0} (config : Numbers) (of : ClockId) (cells : List CellView) (seats : List (Seat T)) (boxes : List (Taking Answered ClientPlace)) (rows : List (List AnswerPutter)) (portions : List (List (Putting Asked NodePlace))) (workers : List WorkerView) (clients : List (EndpointView × T)) (shared_cells : SharedCellsView)
    (o : Opened config of cells seats boxes rows portions workers clients shared_cells) where
  goes_by_mail : (i : ℕ) (s : Seat T) (x : EndpointView × T) → IsClientOf boxes portions i s x → IsByMail x.0.transport
  goes_by_mail i s x c = (c.mail, ap (λ (ks : EndpointView). ks.transport) c.endpoint)

  pub all_by_mail : All (λ (x : EndpointView × T). IsByMail x.0.transport) clients
  all_by_mail = all_from_places (λ (x : EndpointView × T). IsByMail x.0.transport) clients (λ i x at.
      let c = beside_left (IsClientOf boxes portions) seats clients i x o.seated at in
      goes_by_mail i c.0 x c.2)

  cell_stays : (k : ℕ) (cell new : CellView) (w : WorkerView) → IsWorkerOf of (ids_of seats) rows k cell w → w.cell ≡ new → new ≡ again cell
  cell_stays k cell new w worker is = sym is ∙ worker.is

  pub cells_stay : map (λ (w : WorkerView). w.cell) workers ≡ map again cells
  cells_stay = beside_map again cells (map (λ (w : WorkerView). w.cell) workers) (record {
    count = o.nodes.count ∙ sym (length-map workers (λ (w : WorkerView). w.cell));
    each = λ k x y at to. let w = map_get (λ (v : WorkerView). v.cell) workers k y to in cell_stays k x y w.0 (o.nodes.each k x w.0 at w.1) w.2;
  })

  seat_stays : (i : ℕ) (s t : Seat T) (x : EndpointView × T) → IsClientOf boxes portions i s x → seat_of x ≡ t → t ≡ s
  seat_stays i s t x c is = let desk = ap (λ (ks : EndpointView). ks.desk) c.endpoint in sym is ∙ (λ j. record { desk = desk j; duty = c.duty j })

  pub seats_stay : map seat_of clients ≡ seats
  seats_stay = beside_map (λ (s : Seat T). s) seats (map seat_of clients) (record {
    count = o.seated.count ∙ sym (length-map clients seat_of);
    each = λ k s y at to. let x = map_get seat_of clients k y to in seat_stays k s y x.0 (o.seated.each k s x.0 at x.1) x.2;
  }) ∙ map_id seats

  pub cells_own : All (λ (c : CellView). c.pass.clock ≡ c.charter.pass.clock) cells
  cells_own = all_from_places (λ (c : CellView). c.pass.clock ≡ c.charter.pass.clock) cells (λ k c at. (beside_right (IsWorkerOf of (ids_of seats) rows) cells workers k c o.nodes at).2.own)

  -- the phase may be done by locks, and what it then leaves it leaves of the cells and seats as they came
  pub may_by_locks : (ready : T → List CellShard → DeskView → Type 0) (done : T → DeskView → T → DeskView → Type 0) → MayPhase ready of cells seats → MayPhase ready of (map (λ (w : WorkerView). w.cell) workers) (map seat_of clients)
  may_by_locks ready done may = may_again ready done of cells seats (map (λ (w : WorkerView). w.cell) workers) (map seat_of clients) cells_stay seats_stay cells_own may

  pub phased_by_locks : {E : Type 0} (ready : T → List CellShard → DeskView → Type 0) (done : T → DeskView → T → DeskView → Type 0) (r : Result (ClockId × Left T) E) → IfOk r (λ p. HasPhased done of (map (λ (w : WorkerView). w.cell) workers) (map seat_of clients) p.0 p.1) → IfOk r (λ p. HasPhased done of cells seats p.0 p.1)
  phased_by_locks ready done r has =
      ok_also (λ (p : ClockId × Left T). HasPhased done of (map (λ (w : WorkerView). w.cell) workers) (map seat_of clients) p.0 p.1) (λ (p : ClockId × Left T). HasPhased done of cells seats p.0 p.1) r
      (λ p phased. phased_again ready done of cells seats (map (λ (w : WorkerView). w.cell) workers) (map seat_of clients) p.0 p.1 cells_stay seats_stay phased) has

-- the same of thread states that came back as they were, with the clock
module _ {T : Type 0} (of : ClockId) (cells : List CellView) (seats : List (Seat T)) (shared_cells : SharedCellsView) (states : List (ThreadState T)) (h : AreStates of cells seats shared_cells states) (same : List (ThreadState T)) (nobody : same ≡ states) where
  pub ways_back : All (λ (x : EndpointView × T). IsByMail x.0.transport) (clients_in same)
  ways_back = subst (λ (l : List (ThreadState T)). All (λ x. IsByMail x.0.transport) (clients_in l)) (sym nobody) (all_by_mail h.config of cells seats h.boxes h.rows h.portions (nodes_in states) (clients_in states) shared_cells h.opened)

  pub may_back : (ready : T → List CellShard → DeskView → Type 0) (done : T → DeskView → T → DeskView → Type 0) (clock : ClockId) → clock ≡ of → MayPhase ready of cells seats → MayPhase ready clock (cells_at same) (seats_at same)
  may_back ready done clock ticks may =
      subst (λ (k : ClockId). MayPhase ready k (cells_at same) (seats_at same)) (sym ticks) (subst (λ (l : List (ThreadState T)). MayPhase ready of (cells_at l) (seats_at l)) (sym nobody)
      (may_by_locks h.config of cells seats h.boxes h.rows h.portions (nodes_in states) (clients_in states) shared_cells h.opened ready done may))

  pub phased_back : {E : Type 0} (ready : T → List CellShard → DeskView → Type 0) (done : T → DeskView → T → DeskView → Type 0) (clock : ClockId) → clock ≡ of → (r : Result (ClockId × Left T) E) → IfOk r (λ p. HasPhased done clock (cells_at same) (seats_at same) p.0 p.1) → IfOk r (λ p. HasPhased done of cells seats p.0 p.1)
  phased_back {E = E} ready done clock ticks r has =
      phased_by_locks h.config of cells seats h.boxes h.rows h.portions (nodes_in states) (clients_in states) shared_cells h.opened ready done r
      (subst (λ (l : List (ThreadState T)). IfOk r (λ p. HasPhased done of (cells_at l) (seats_at l) p.0 p.1)) nobody (subst (λ (k : ClockId). IfOk r (λ p. HasPhased done k (cells_at same) (seats_at same) p.0 p.1)) ticks has))
