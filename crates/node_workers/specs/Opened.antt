-- Inboxes for cells and clients, and the thread states that threads begin with.
use Rattle.std.specs.Prelude.{◌≡◌, ℕ, false, List, [], length, map, All, slice_get}
use Rattle.std.specs.declared.option.Option.TheVariants.{None, Some}
use Rattle.quorum_rules.specs.Limits.{Numbers}
use Rattle.thread_work.specs.Pairwise.{Beside}
use Rattle.inboxes.specs.Sides.{Putting, Taking}
use Rattle.event_clock.specs.Passes.{ClockId}
use Rattle.locked_nodes.specs.Cells.{CellView, rechartered}
use Rattle.locked_nodes.specs.declared.cell_shard.CellShard.{CellShard}
use Rattle.locked_nodes.specs.CellShards.{cell_shard_of, cell_shards_of}
use Rattle.client_endpoints.specs.declared.asked.Asked.{Asked}
use Rattle.client_endpoints.specs.declared.asked.NodePlace.{NodePlace}
use Rattle.client_endpoints.specs.declared.answered.Answered.{Answered}
use Rattle.client_endpoints.specs.declared.answered.ClientPlace.{ClientPlace}
use Rattle.client_endpoints.specs.declared.mail.ByMail.{ByMail}
use Rattle.client_endpoints.specs.declared.shared_cells.Cells.TheVariants.{Threads}
use Rattle.client_endpoints.specs.declared.transport.Transport.TheVariants.{Mail}
use Rattle.client_endpoints.specs.Endpoint.{EndpointView, SharedCellsView}
use Rattle.node_workers.specs.Workers.{AnswerPutter, WorkerView}
use Rattle.phase_threads.specs.Standing.{AreCells, IsDeskAt}
use Rattle.phase_threads.specs.declared.duty.Seat.{Seat}
use Rattle.node_workers.specs.declared.thread_state.ThreadState.{ThreadState}
use Rattle.node_workers.specs.Portions.{AreSpread}
use Rattle.node_workers.specs.ThreadStates.{nodes_in, clients_in}

-- the inbox of a seat's client, which has so many senders and gave nothing yet
pub record IsAnswerBox {T : Type 0} (of : ClockId) (senders i : ℕ) (seat : Seat T) (box : Taking Answered ClientPlace) : Type 0 where
  pub ticks : box.inbox.place.clock.value ≡ of
  pub client : box.inbox.place.client ≡ seat.desk.id
  pub count : box.senders ≡ senders
  pub new : box.heard ≡ []

-- the inbox of asks to the cell of a shard, by one of these clients, which gave nothing yet
pub record IsAskBox (of : ClockId) (to : CellShard) (ids : List ℕ) (box : Taking Asked NodePlace) : Type 0 where
  pub ticks : box.inbox.place.clock.value ≡ of
  pub cell_shard : box.inbox.place.cell_shard ≡ to
  pub clients : box.inbox.place.clients.value ≡ ids
  pub new : box.heard ≡ []

-- the worker of a cell, with an inbox for its shard, and the putters at the cell's place
pub record IsWorkerOf (of : ClockId) (ids : List ℕ) (rows : List (List AnswerPutter)) (k : ℕ) (cell : CellView) (w : WorkerView) : Type 0 where
  pub is : w.cell ≡ rechartered cell false
  pub own : cell.pass.clock ≡ cell.charter.pass.clock
  pub box : IsAskBox of (cell_shard_of cell.charter) ids w.asks
  pub answer_putters : slice_get rows k ≡ Some w.answers
  pub none : w.sents ≡ []

-- the endpoint of a seat's desk and its duty, with the taker and the putters at the seat's place
pub record IsClientOf {T : Type 0} (boxes : List (Taking Answered ClientPlace)) (putters : List (List (Putting Asked NodePlace))) (i : ℕ) (s : Seat T) (x : EndpointView × T) : Type 0 where
  pub mail : ByMail
  pub endpoint : x.0 ≡ record { began = s.desk; desk = s.desk; transport = Mail mail; refused = None }
  pub duty : x.1 ≡ s.duty
  pub seat : mail.seat ≡ i
  pub asks : slice_get putters i ≡ Some mail.asks.items
  pub answers : slice_get boxes i ≡ Some mail.answers

abbrev pub ids_of : {T : Type 0} → List (Seat T) → List ℕ
ids_of seats = map (λ s. s.desk.id) seats

-- all that is opened
pub record Opened {T : Type 0} (config : Numbers) (of : ClockId) (cells : List CellView) (seats : List (Seat T)) (boxes : List (Taking Answered ClientPlace)) (rows : List (List AnswerPutter)) (portions : List (List (Putting Asked NodePlace))) (workers : List WorkerView) (clients : List (EndpointView × T)) (shared_cells : SharedCellsView) : Type 0 where
  pub answers : Beside (IsAnswerBox of (length cells)) seats boxes
  pub answer_putters : AreSpread (length cells) boxes rows
  pub nodes : Beside (IsWorkerOf of (ids_of seats) rows) cells workers
  pub asks : AreSpread (length (ids_of seats)) (map (λ w. w.asks) workers) portions
  pub seated : Beside (IsClientOf boxes portions) seats clients
  pub is : shared_cells ≡ record { clock = of; cell_shards = cell_shards_of cells; cells = Threads }
  pub are : AreCells config of cells
  pub desks : All (λ s. IsDeskAt config of s.desk) seats

-- thread states by mail of these cells and seats, before their threads start, with the shared cells that they share
pub record AreStates {T : Type 0} (of : ClockId) (cells : List CellView) (seats : List (Seat T)) (shared_cells : SharedCellsView) (states : List (ThreadState T)) : Type 0 where
  pub config : Numbers
  pub boxes : List (Taking Answered ClientPlace)
  pub rows : List (List AnswerPutter)
  pub portions : List (List (Putting Asked NodePlace))
  pub opened : Opened config of cells seats boxes rows portions (nodes_in states) (clients_in states) shared_cells
