-- Thread states whose threads have all worked, as they are closed.
use Rattle.std.proofs.Common.{◌≡◌, ℕ, List, All, sym, ap, subst, ◌∙◌}
use Rattle.std.specs.List.{AllZip}
use Rattle.thread_work.specs.Pairwise.{Beside}
use Rattle.event_clock.specs.Passes.{ClockId}
use Rattle.locked_nodes.specs.Cells.{CellView}
use Rattle.client_desks.specs.Desks.{DeskView}
use Rattle.client_desks.specs.Later.{IsLater}
use Rattle.client_endpoints.specs.Transports.{IsByMail}
use Rattle.client_endpoints.specs.Endpoint.{EndpointView, SharedCellsView}
use Rattle.phase_threads.specs.Standing.{PairsStand, HasWorked}
use Rattle.phase_threads.specs.declared.duty.Seat.{Seat}
use Rattle.phase_threads.specs.declared.phase.Left.{Left}
use Rattle.phase_threads.specs.Phases.{HasPhased}
use Rattle.node_workers.specs.declared.thread_state.ThreadState.{ThreadState}
use Rattle.node_workers.specs.ThreadStates.{nodes_in, clients_in, cells_at, DidWork}
use Rattle.node_workers.specs.Opened.{AreStates}
use Rattle.node_workers.specs.Ended.{MayClose, HasClosed}
use Rattle.node_workers.proofs.Working.{nodes_worked, clients_worked, ways_worked, mails_of}
use Rattle.node_workers.proofs.Staying.{all_by_mail}
use Rattle.node_workers.proofs.Phasing.{mails_done, rows_own, cells_worked, desks_later, duties_done, pairs_again}
use Rattle.phase_threads.proofs.lemmas.Phasing.{desks_of}

module _ {T : Type 0} (done : T → DeskView → T → DeskView → Type 0) (of : ClockId) (cells : List CellView) (seats : List (Seat T)) (shared_cells : SharedCellsView) (states : List (ThreadState T)) (h : AreStates of cells seats shared_cells states)
    (last : List (ThreadState T)) (whole : Beside (λ (i : ℕ) (p q : ThreadState T). DidWork done p q) states last) where
  by_mail : All (λ (x : EndpointView × T). IsByMail x.0.transport) (clients_in last)
  by_mail =
      ways_worked done (clients_in states) (clients_in last) (clients_worked done states last whole)
      (all_by_mail h.config of cells seats h.boxes h.rows h.portions (nodes_in states) (clients_in states) shared_cells h.opened)

  pub may_close : MayClose last
  may_close =
      let served = nodes_worked done states last whole in
      let worked = clients_worked done states last whole in
      record {
        ways = by_mail;
        done = λ mails ways. mails_done h.config of cells seats h.boxes h.rows h.portions (nodes_in states) (clients_in states) shared_cells h.opened (nodes_in last) (clients_in last) done served worked mails ways;
        own = λ mails ways. rows_own h.config of cells seats h.boxes h.rows h.portions (nodes_in states) (clients_in states) shared_cells h.opened (nodes_in last) (clients_in last) done served worked mails ways;
      }

  pub has_phased : (clock : ClockId) (left : Left T) → clock ≡ shared_cells.clock → HasClosed last left → PairsStand cells (desks_of seats) → HasPhased done of cells seats clock left
  has_phased clock left ticks closed pairs =
      let served = nodes_worked done states last whole in
      let worked = clients_worked done states last whole in
      let went = mails_of (clients_in last) by_mail in
      record {
        clock = ticks ∙ ap (λ (f : SharedCellsView). f.clock) h.opened.is;
        cells = subst (AllZip HasWorked cells) (sym closed.cells) (cells_worked h.config of cells seats h.boxes h.rows h.portions (nodes_in states) (clients_in states) shared_cells h.opened (nodes_in last) (clients_in last) done served worked went.0 went.1);
        desks = subst (AllZip (λ (s t : Seat T). IsLater s.desk t.desk) seats) (sym closed.seats) (desks_later h.config of cells seats h.boxes h.rows h.portions (nodes_in states) (clients_in states) shared_cells h.opened (nodes_in last) (clients_in last) done served worked went.0 went.1);
        duties = λ none. subst (AllZip (λ (s t : Seat T). done s.duty s.desk t.duty t.desk) seats) (sym closed.seats) (duties_done h.config of cells seats h.boxes h.rows h.portions (nodes_in states) (clients_in states) shared_cells h.opened (nodes_in last) (clients_in last) done served worked went.0 went.1 (closed.settled none).sound);
        pairs = λ none.
            let s = closed.settled none in
            subst (λ (l : List CellView). PairsStand l (desks_of left.seats.items)) (sym closed.cells) (subst (λ (l : List (Seat T)). PairsStand (cells_at last) (desks_of l)) (sym closed.seats)
            (pairs_again h.config of cells seats h.boxes h.rows h.portions (nodes_in states) (clients_in states) shared_cells h.opened (nodes_in last) (clients_in last) done served worked s.mails s.ways s.settled s.sound s.agree pairs));
      }
