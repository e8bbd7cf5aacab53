-- A client's desk: what it is, and what its calls add to it.
use Rattle.std.specs.Prelude.{◌≡◌, ℕ, ◌+◌, ◌-◌, ◌^◌, ◌<◌, Bool, false, List, [], ◌∷◌, ◌++◌, map, Option, IsSome}
use Rattle.std.specs.declared.option.Option.TheVariants.{None, Some}
use Rattle.protocol.specs.Messages.{Message}
use Rattle.protocol.specs.Operations.{Outcome}
use Rattle.protocol.specs.World.{Record}
use Rattle.protocol.specs.Instance.{setting}
use Rattle.protocol.specs.Seen.{SeenTask, Hearing, outstanding_of, has_answered, phase_of}
use Rattle.protocol.specs.Seen.Hearing.{Ignored, Counted, Begins, Ended}
use Rattle.quorum_rules.specs.Limits.{Numbers}
use Rattle.operation_core.specs.Clients.{ClientView, hears}
use Rattle.event_clock.specs.Passes.{Holder, drew, met}
use Rattle.journals.specs.declared.desk.DeskAct.{DeskAct}
use Rattle.journals.specs.declared.desk.DeskEntry.{DeskEntry}
use Rattle.journals.specs.Desks.{DeskState, new_desk, by_hearing, DeskKept, desk_after_all}
use Rattle.journals.specs.Records.{client_records}
use Rattle.journals.specs.declared.desk.DeskAct.TheVariants.{Start, Crash, Call}
use Rattle.locked_nodes.specs.Cells.{Rises, with_seen}

-- a desk: its cluster, the number of its client and whether that lies, its journal, and its pass
pub record DeskView : Type 0 where
  pub config : Numbers
  pub id : ℕ
  pub lying : Bool
  pub entries : List DeskEntry
  pub pass : Holder

-- the desk of a client that has done nothing
abbrev pub first_desk : Numbers → ℕ → Bool → Holder → DeskView
first_desk config id lying pass = record { config = config; id = id; lying = lying; entries = []; pass = pass }

-- the desk after its pass met another one
abbrev pub met_desk : DeskView → Holder → DeskView
met_desk d other = record d { pass = met d.pass other }

-- what the client is, as its journal tells
abbrev pub state_at : DeskView → DeskState
state_at d = desk_after_all (new_desk d.config d.id) d.entries

-- the operation under way at the desk, if there is one
abbrev pub task_at : DeskView → Option SeenTask
task_at d = (state_at d).client.seen.task

-- the records of the client's operations, as its journal tells them
abbrev pub records_at : DeskView → List Record
records_at d = client_records d.id (state_at d)

-- what the client's phase asks of a node, if it asks anything
abbrev pub asks_of : DeskView → ℕ → Option Message
asks_of d node = outstanding_of (setting d.config) d.id (task_at d) node

-- the numbers of starts and crashes, which the desk's own pass draws
abbrev pub own_of : ℕ → DeskAct → List ℕ
own_of n (Start op) = n ∷ []
own_of n Crash = n ∷ []
own_of n (Call way ask reply) = []

abbrev pub own_numbers : List DeskEntry → List ℕ
own_numbers [] = []
own_numbers (e ∷ es) = own_of e.number e.act ++ own_numbers es

abbrev pub numbers_of : List DeskEntry → List ℕ
numbers_of entries = map (λ e. e.number) entries

-- what a desk's type keeps: its journal is kept, the client is what the journal leaves, the records are those that it tells, and the
-- pass drew the numbers of starts and crashes; all numbers ascend, below what the pass has seen
pub record IsDesk (config : Numbers) (id : ℕ) (lying : Bool) (client : ClientView) (crashed : Bool) (entries : List DeskEntry) (records : List Record) (pass : Holder) : Type 0 where
  pub kept : DeskKept lying (new_desk config id) entries
  pub left : client ≡ (desk_after_all (new_desk config id) entries).client
  pub fell : crashed ≡ (desk_after_all (new_desk config id) entries).crashed
  pub told : records ≡ client_records id (desk_after_all (new_desk config id) entries)
  pub drawn : pass.drawn ≡ own_numbers entries
  pub rises : Rises 0 (numbers_of entries) pass.seen

-- the same, of what contracts see
abbrev pub KeptDesk : DeskView → Type 0
KeptDesk d = IsDesk d.config d.id d.lying (state_at d).client (state_at d).crashed d.entries (records_at d) d.pass

-- a correct client that hasn't crashed
pub record IsUp (d : DeskView) : Type 0 where
  pub correct : d.lying ≡ false
  pub up : (state_at d).crashed ≡ false

-- it can start an operation: none is under way, and it has operations left
pub record CanStart (d : DeskView) : Type 0 where
  pub up : IsUp d
  pub idle : task_at d ≡ None
  pub fresh : (state_at d).client.seen.started < 2 ^ 32 - 1

-- it can call a node: its phase asks something of the node, which hasn't answered, and it has phases left
pub record CanCall (d : DeskView) (node : ℕ) : Type 0 where
  pub up : IsUp d
  pub asks : IsSome (asks_of d node)
  pub unanswered : has_answered (task_at d) node ≡ false
  pub phase : phase_of (task_at d) < 2 ^ 64 - 1

abbrev pub desk_entry : ℕ → DeskAct → DeskEntry
desk_entry n a = record { number = n; act = a }

-- the desk with a start or crash of this number more, which its pass drew
abbrev pub with_own : DeskView → ℕ → DeskAct → DeskView
with_own d n a = record d { entries = d.entries ++ desk_entry n a ∷ []; pass = drew d.pass n }

-- the desk with a call of this number more, which its pass has seen
abbrev pub with_call : DeskView → ℕ → DeskAct → DeskView
with_call d n a = record d { entries = d.entries ++ desk_entry n a ∷ []; pass = with_seen d.pass (n + 1) }

-- the client after a reply, if there is one
abbrev pub heard : ClientView → Option Message → ClientView
heard c None = c
heard c (Some reply) = by_hearing c (hears c c.seen.task reply)

-- the outcome of an operation that ends
abbrev pub outcome_in : Hearing → Option Outcome
outcome_in Ignored = None
outcome_in (Counted t) = None
outcome_in (Begins t) = None
outcome_in (Ended outcome) = Some outcome

-- the outcome of the operation that a reply ends, if it ends one
abbrev pub ending : ClientView → Option Message → Option Outcome
ending c None = None
ending c (Some reply) = outcome_in (hears c c.seen.task reply)
