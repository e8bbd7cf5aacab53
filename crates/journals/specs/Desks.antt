-- What a client does, as its desk's journal tells it.
use Rattle.std.specs.Prelude.{◌≡◌, ℕ, ◌-◌, ◌^◌, ◌<◌, Bool, true, false, List, [], ◌∷◌, Option}
use Rattle.std.specs.declared.option.Option.TheVariants.{None, Some}
use Rattle.quorum_rules.specs.Limits.{Numbers}
use Rattle.wire_forms.specs.declared.op.Op.{Op}
use Rattle.protocol.specs.Count.{one_more}
use Rattle.protocol.specs.Messages.{IsFormedBody, Message}
use Rattle.protocol.specs.Operations.{Work, Outcome}
use Rattle.protocol.specs.World.{Fits}
use Rattle.protocol.specs.Instance.{setting}
use Rattle.protocol.specs.Seen.{SeenTask, Hearing, outstanding_of, has_answered, block_of, work_of, new_client}
use Rattle.protocol.specs.Seen.Hearing.{Ignored, Counted, Begins, Ended as Ends}
use Rattle.operation_core.specs.Clients.{ClientView, with_task, with_started, started, hears}
pub use Rattle.journals.specs.declared.desk.Way.{Way}
pub use Rattle.journals.specs.declared.desk.DeskAct.{DeskAct}
pub use Rattle.journals.specs.declared.desk.DeskEntry.{DeskEntry}
use Rattle.journals.specs.declared.desk.Way.TheVariants.{Call as ByCall}
use Rattle.journals.specs.declared.desk.DeskAct.TheVariants.{Start, Crash, Call}

-- an operation that has ended, with the numbers of its start and of the answer that ended it
pub record Ended : Type 0 where
  pub block : ℕ
  pub work : Work
  pub start : ℕ
  pub end : ℕ
  pub outcome : Outcome

-- a client at one moment: what it does, whether it has crashed, the number of its latest start, and its operations that have ended, in order
pub record DeskState : Type 0 where
  pub client : ClientView
  pub crashed : Bool
  pub began : ℕ
  pub ended : List Ended

-- a client that has done nothing
abbrev pub new_desk : Numbers → ℕ → DeskState
new_desk config id = record { client = record { config = config; id = id; seen = new_client }; crashed = false; began = 0; ended = [] }

-- the client after an answer that did this to its operation
abbrev pub by_hearing : ClientView → Hearing → ClientView
by_hearing c Ignored = c
by_hearing c (Counted t) = with_task c (Some t)
by_hearing c (Begins t) = with_task c (Some t)
by_hearing c (Ends outcome) = with_task c None

-- the operation that an answer of this number ended, if it did, and which had started then
abbrev pub ended_by : ℕ → ℕ → Option SeenTask → Hearing → Option Ended
ended_by start end (Some t) (Ends outcome) = Some (record { block = t.block; work = t.work; start = start; end = end; outcome = outcome })
ended_by start end _ _ = None

-- the client after it heard what did this, at this number
abbrev pub desk_heard : DeskState → ℕ → Hearing → DeskState
desk_heard d n h = record d { client = by_hearing d.client h; ended = one_more d.ended (ended_by d.began n d.client.seen.task h) }

-- the client after a reply, if there is one
abbrev pub desk_told : DeskState → ℕ → Option Message → DeskState
desk_told d n None = d
desk_told d n (Some m) = desk_heard d n (hears d.client d.client.seen.task m)

-- the client after an act: a start begins its next operation, a crash lasts, and the reply of a call is heard
abbrev pub desk_after : DeskState → ℕ → DeskAct → DeskState
desk_after d n (Start op) = record d { client = with_started d.client (started d.client op); began = n }
desk_after d n Crash = record d { crashed = true }
desk_after d n (Call way ask reply) = desk_told d n reply

-- the block is there, and a value that is written is a block
pub record FitsOp (config : Numbers) (op : Op) : Type 0 where
  pub block : block_of op < config.blocks
  pub fits : Fits (setting config) (work_of op)

-- an operation may start: the client is idle, has operations left in this life, and the operation fits
pub record MayStart (c : ClientView) (op : Op) : Type 0 where
  pub idle : c.seen.task ≡ None
  pub fresh : c.seen.started < 2 ^ 32 - 1
  pub fits : FitsOp c.config op

-- the ask is what the client's phase asks of a node that hasn't answered it
pub record MayAsk (c : ClientView) (ask : Message) : Type 0 where
  pub outstanding : outstanding_of (setting c.config) c.id c.seen.task ask.node ≡ Some ask
  pub unanswered : has_answered c.seen.task ask.node ≡ false

-- what a correct client may do until it crashes
abbrev pub DeskGoes : DeskState → DeskAct → Type 0
DeskGoes d (Start op) = (d.crashed ≡ false) × MayStart d.client op
DeskGoes d Crash = d.crashed ≡ false
DeskGoes d (Call way ask reply) = (d.crashed ≡ false) × MayAsk d.client ask

-- what a lying client may do: call with any message in its name
abbrev pub LiarCalls : ℕ → DeskAct → Type 0
LiarCalls c (Call way ask reply) = (way ≡ ByCall) × (ask.client ≡ c) × IsFormedBody ask.body
LiarCalls c (Start op) = ⊥
LiarCalls c Crash = ⊥

-- by whether it is declared lying
abbrev pub ActsAs : Bool → DeskState → DeskAct → Type 0
ActsAs true d act = LiarCalls d.client.id act
ActsAs false d act = DeskGoes d act

-- each entry is one that the client may do where the earlier ones leave it
abbrev pub DeskKept : Bool → DeskState → List DeskEntry → Type 0
DeskKept lying d [] = Unit {0}
DeskKept lying d (e ∷ es) = ActsAs lying d e.act × DeskKept lying (desk_after d e.number e.act) es

-- the client after these entries
abbrev pub desk_after_all : DeskState → List DeskEntry → DeskState
desk_after_all d [] = d
desk_after_all d (e ∷ es) = desk_after_all (desk_after d e.number e.act) es
