-- A node with its inbox and the inboxes of those who ask, and what it does until the last ask was taken.
use Rattle.std.specs.Prelude.{◌≡◌, ◌==◌, ℕ, List, [], ◌++◌, map, slice_get}
use Rattle.std.specs.declared.option.Option.TheVariants.{Some}
use Rattle.std.specs.declared.result.Result.TheVariants.{Ok}
use Rattle.std.specs.List.{Contains, filter}
use Rattle.thread_work.specs.Pairwise.{Beside}
use Rattle.event_clock.specs.Passes.{ClockId}
use Rattle.inboxes.specs.Sides.{Putting, Taking, took, IsDone}
use Rattle.journals.specs.declared.desk.DeskAct.{DeskAct}
use Rattle.journals.specs.declared.desk.DeskAct.TheVariants.{Call}
use Rattle.journals.specs.declared.desk.Way.{Way}
use Rattle.journals.specs.declared.node.NodeEntry.{NodeEntry}
use Rattle.journals.specs.Steps.{side}
use Rattle.locked_nodes.specs.declared.answers.Told.{Told}
use Rattle.locked_nodes.specs.Cells.{CellView, number_of}
use Rattle.locked_nodes.specs.CellShards.{cell_shard_of}
use Rattle.locked_nodes.specs.Cells.{reply_told}
use Rattle.protocol.specs.Messages.{Message}
use Rattle.client_endpoints.specs.declared.asked.Asked.{Asked}
use Rattle.client_endpoints.specs.declared.asked.NodePlace.{NodePlace}
use Rattle.client_endpoints.specs.declared.answered.Answered.{Answered}
use Rattle.client_endpoints.specs.declared.answered.ClientPlace.{ClientPlace}

-- one who puts answers into a client's inbox: before its last word or after it
abbrev pub AnswerPutter : Type 0
AnswerPutter = Putting Answered ClientPlace

-- a worker: its cell, the inbox of asks, and by seat the putters to the clients' inboxes, first without a last word, and then with one
pub record WorkerView : Type 0 where
  pub cell : CellView
  pub asks : Taking Asked NodePlace
  pub answers : List AnswerPutter
  pub sents : List AnswerPutter

-- the numbers of the clients, by seat
abbrev pub clients_of : WorkerView → List ℕ
clients_of w = w.asks.inbox.place.clients.value

-- a putter to this client's inbox, by this clock, into which nothing was put yet
pub record IsPutterTo (of : ClockId) (seat id : ℕ) (answer_putter : AnswerPutter) : Type 0 where
  pub ticks : answer_putter.inbox.place.clock.value ≡ of
  pub client : answer_putter.inbox.place.client ≡ id
  pub new : answer_putter.put ≡ []

-- a worker that has served nobody: the inbox is that of its cell's shard, nothing was taken out of it,
-- and there is a putter to each client
pub record CanServe (of : ClockId) (w : WorkerView) : Type 0 where
  pub cell : w.cell.charter.pass.clock ≡ of
  pub ticks : w.asks.inbox.place.clock.value ≡ of
  pub cell_shard : w.asks.inbox.place.cell_shard ≡ cell_shard_of w.cell.charter
  pub new : w.asks.heard ≡ []
  pub answer_putters : Beside (IsPutterTo of) (clients_of w) w.answers
  pub none : w.sents ≡ []

-- the answer tells of the node's entry: it has the entry's number, and the call that is the client's side of it
pub record Tells (n : NodeEntry) (a : Answered) : Type 0 where
  pub told : Told
  pub is : a.told ≡ Ok told
  pub number : n.number ≡ number_of told
  pub agree : side n.act ≡ Some (a.ask.client, Call a.way a.ask (reply_told told))

-- an answer that tells of the entry was put into the inbox of the client that asked
pub record WasTold (clients : List ℕ) (answer_putters : List AnswerPutter) (n : NodeEntry) : Type 0 where
  pub seat : ℕ
  pub answer_putter : AnswerPutter
  pub there : slice_get answer_putters seat ≡ Some answer_putter
  pub answer : Answered
  pub client : slice_get clients seat ≡ Some answer.ask.client
  pub put : Contains answer_putter.put answer
  pub tells : Tells n answer

-- the client of this seat asked, and the answer tells of one of these entries
pub record TellsOf (clients : List ℕ) (more : List NodeEntry) (seat : ℕ) (a : Answered) : Type 0 where
  pub entry : NodeEntry
  pub there : Contains more entry
  pub client : slice_get clients seat ≡ Some a.ask.client
  pub tells : Tells entry a

-- the same putter, whatever was put
pub record IsSamePutter (seat : ℕ) (old new : AnswerPutter) : Type 0 where
  pub inbox : new.inbox ≡ old.inbox
  pub number : new.number ≡ old.number

-- the cell has these entries more, and answers were put: each entry that has a client's side was told to that client, and each
-- answer that tells of an entry tells of one of these
pub record HasAnswered (clients : List ℕ) (old : CellView) (first : List AnswerPutter) (new : CellView) (answer_putters : List AnswerPutter) : Type 0 where
  pub charter : new.charter ≡ old.charter
  pub more : List NodeEntry
  pub grew : new.journal ≡ old.journal ++ more
  pub same : Beside IsSamePutter first answer_putters
  pub told : (n : NodeEntry) (c : ℕ) (act : DeskAct) → Contains more n → side n.act ≡ Some (c, act) → WasTold clients answer_putters n
  pub done : (seat : ℕ) (answer_putter : AnswerPutter) (a : Answered) (t : Told) → slice_get answer_putters seat ≡ Some answer_putter → Contains answer_putter.put a → a.told ≡ Ok t → TellsOf clients more seat a

-- the cell met what was asked: the answer tells of each entry that it has more, and of one if it tells of any
pub record HasMet (old : CellView) (a : Answered) (new : CellView) : Type 0 where
  pub charter : new.charter ≡ old.charter
  pub tail : List NodeEntry
  pub grew : new.journal ≡ old.journal ++ tail
  pub told : (n : NodeEntry) → Contains tail n → Tells n a
  pub done : (t : Told) → a.told ≡ Ok t → (n : NodeEntry) × Contains tail n

-- the ways and messages of what was asked from this seat, in order
abbrev pub asks_from : ℕ → List (ℕ × Asked) → List (Way × Message)
asks_from seat asks = map (λ i. (i.1.way, i.1.ask)) (filter (λ i. i.1.seat == seat) asks)

-- the ways and messages of what was asked, as the answers tell them
abbrev pub asks_told : List Answered → List (Way × Message)
asks_told answers = map (λ a. (a.way, a.ask)) answers

-- each seat was answered just what it asked, in its order
abbrev pub AreAnswered : List (ℕ × Asked) → List AnswerPutter → Type 0
AreAnswered asks answer_putters =
    (seat : ℕ) (answer_putter : AnswerPutter) → slice_get answer_putters seat ≡ Some answer_putter
    → asks_told answer_putter.put ≡ asks_from seat asks

-- all asks were taken, up to the last word of each who asks, and answered; each putter has had its last word
pub record HasServed (old new : WorkerView) : Type 0 where
  pub asks : new.asks.inbox ≡ old.asks.inbox
  pub done : IsDone new.asks
  pub asked : AreAnswered (took new.asks) new.sents
  pub none : new.answers ≡ []
  pub answered : HasAnswered (clients_of old) old.cell old.answers new.cell new.sents
