-- What contracts see of the code's states, as first-order data, and the states of the definitions that they show.
use Rattle.std.specs.Prelude.{ℕ, ◌+◌, ◌*◌, ◌^◌, Bool, false, if◌then◌else◌, not, ◌&&◌, nat_lt, List, [], ◌∷◌, replicate, Option, slice_index_or, slice_set}
use Rattle.std.specs.declared.option.Option.TheVariants.{None, Some}
use Rattle.protocol.specs.Messages.{Stamp, Version, Message, Reply, Tag}
use Rattle.wire_forms.specs.declared.first.First.{First}
use Rattle.wire_forms.specs.declared.op.Op.{Op}
use Rattle.wire_forms.specs.declared.op.Op.TheVariants.{Read as ReadOp, Write as WriteOp}
use Rattle.run_words.specs.declared.record.Record.{Record as ToldRecord}
use Rattle.run_words.specs.declared.record.Accepted.{Accepted as ToldAccepted}
use Rattle.quorum_rules.specs.Limits.{Numbers}
use Rattle.protocol.specs.Setting.{Setting}
use Rattle.protocol.specs.Nodes.{first_version}
use Rattle.protocol.specs.Operations.{Task, Work, Stage, Outcome, Decision, first_work, rounds_after, is_answered, is_counted as task_counts, awaits_more, outstanding, decide}
use Rattle.protocol.specs.Operations.Work.{Reads, Writes}
use Rattle.protocol.specs.Operations.Decision.{GoesOn, Ends}
use Rattle.protocol.specs.World.{World, Record, Accepted, chosen_stamp}

-- an operation under way, with one answer or none for each node; at which place it began the world alone knows
pub record SeenTask : Type 0 where
  pub op : ℕ
  pub block : ℕ
  pub work : Work
  pub phase : ℕ
  pub rounds : ℕ
  pub stage : Stage
  pub answers : List (Option Reply)

-- the answers, by node
abbrev pub answers_of : SeenTask → ℕ → Option Reply
answers_of t i = slice_index_or t.answers i None

-- the operation, which began at this place
abbrev pub task_at : ℕ → SeenTask → Task
task_at start t = record { op = t.op; block = t.block; work = t.work; start = start; phase = t.phase; rounds = t.rounds; stage = t.stage; answers = λ i. answers_of t i }

-- a client's operation, in a cluster of these numbers; no task once it is over
pub record SeenOperation : Type 0 where
  pub config : Numbers
  pub client : ℕ
  pub task : Option SeenTask

-- what an answer does to an operation: nothing; it is counted; a next phase begins; the operation ends
pub data Hearing : Type 0 where
  Ignored : Hearing
  Counted : SeenTask → Hearing
  Begins : SeenTask → Hearing
  Ended : Outcome → Hearing

-- which block an operation is on, and what it is to do
abbrev pub block_of : Op → ℕ
block_of (ReadOp block) = block
block_of (WriteOp block value) = block

abbrev pub work_of : Op → Work
work_of (ReadOp block) = Reads
work_of (WriteOp block value) = Writes value

-- the first version as a node keeps it
abbrev pub as_version : First → Version
as_version f = record { stamp = f.stamp; sum = f.sum; fragment = f.fragment }

-- a record as it is told
abbrev pub record_of : ToldRecord → Record
record_of r = record { client = r.client; block = block_of r.op; work = work_of r.op; start = r.start; end = r.end; stamp = r.stamp; outcome = r.outcome }

-- an acceptance as it is told
abbrev pub accepted_of : ToldAccepted → Accepted
accepted_of a = record { node = a.node; block = a.block; stamp = a.stamp }

-- the operation with one more answer counted
abbrev pub seen_counted : SeenTask → ℕ → Reply → SeenTask
seen_counted t node reply =
    record { op = t.op; block = t.block; work = t.work; phase = t.phase; rounds = t.rounds; stage = t.stage; answers = slice_set t.answers node (Some reply) }

module _ (s : Setting) where
  -- a new operation
  abbrev pub seen_begun : ℕ → ℕ → Work → SeenTask
  seen_begun op block work =
      record { op = op; block = block; work = work; phase = 1; rounds = rounds_after (first_work work) 0; stage = first_work work; answers = replicate s.n None }

  -- the operation in its next phase
  abbrev pub seen_goes_on : SeenTask → Stage → SeenTask
  seen_goes_on t stage =
      record { op = t.op; block = t.block; work = t.work; phase = t.phase + 1; rounds = rounds_after stage t.rounds; stage = stage; answers = replicate s.n None }

  -- the answer is one that the present phase counts
  abbrev pub is_counted : SeenTask → ℕ → Tag → Reply → Bool
  is_counted t node tag reply = task_counts s (task_at 0 t) node tag reply

  -- what a decision at a phase's end does
  abbrev pub by_decision : SeenTask → Decision → Hearing
  by_decision t (GoesOn stage) = Begins (seen_goes_on t stage)
  by_decision t (Ends outcome) = Ended outcome

  -- an answer was counted, and the phase ends when n-t answers are
  abbrev pub after_counting : ℕ → SeenTask → Hearing
  after_counting client t =
      if awaits_more s (task_at 0 t) then Counted t
      else by_decision t (decide s client (task_at 0 t) t.stage)

  -- what node's answer with this tag does to the client's operation
  abbrev pub hearing : ℕ → SeenTask → ℕ → Tag → Reply → Hearing
  hearing client t node tag reply =
      if is_counted t node tag reply then after_counting client (seen_counted t node reply) else Ignored

  -- the answer is one that the operation counts, if there is an operation
  abbrev pub counts_of : Option SeenTask → ℕ → Tag → Reply → Bool
  counts_of None node tag reply = false
  counts_of (Some t) node tag reply = is_counted t node tag reply

  -- the answer ends the phase: it is counted, and then as many are as the phase waits for
  abbrev pub ends_phase : Option SeenTask → ℕ → Tag → Reply → Bool
  ends_phase None node tag reply = false
  ends_phase (Some t) node tag reply =
      is_counted t node tag reply && not (awaits_more s (task_at 0 (seen_counted t node reply)))

  -- what it does to the operation
  abbrev pub hears : ℕ → Option SeenTask → ℕ → Tag → Reply → Hearing
  hears client None node tag reply = Ignored
  hears client (Some t) node tag reply = hearing client t node tag reply

  -- the present phase's message to a node, if there is an operation and such a node
  abbrev pub outstanding_of : ℕ → Option SeenTask → ℕ → Option Message
  outstanding_of client None node = None
  outstanding_of client (Some t) node = if nat_lt node s.n then Some (outstanding s client (task_at 0 t) node) else None

-- the client with this operation under way, or none
abbrev pub with_task : SeenOperation → Option SeenTask → SeenOperation
with_task o task = record { config = o.config; client = o.client; task = task }

-- whether the present phase has counted an answer of the node
abbrev pub has_answered : Option SeenTask → ℕ → Bool
has_answered None node = false
has_answered (Some t) node = is_answered (answers_of t node)

-- the number of the present phase, or 0 where no operation is under way
abbrev pub phase_of : Option SeenTask → ℕ
phase_of None = 0
phase_of (Some t) = t.phase

-- the stamp that the write under way has chosen
abbrev pub chosen_of : Option SeenTask → Option Stamp
chosen_of None = None
chosen_of (Some t) = chosen_stamp t.work t.stage

-- a correct client: how often it came back, how many operations it has started since, and the one under way
pub record SeenClient : Type 0 where
  pub life : ℕ
  pub started : ℕ
  pub task : Option SeenTask

-- the number of its last operation
abbrev pub ops_of : SeenClient → ℕ
ops_of c = c.life * 2 ^ 32 + c.started

-- a client before its first operation
abbrev pub new_client : SeenClient
new_client = record { life = 0; started = 0; task = None }

-- all that there is at one moment of a run
pub record SeenWorld : Type 0 where
  pub pool : List Message
  -- the versions of each node and block
  pub versions : List (List (List Version))
  pub accepted : List Accepted
  -- by client number: the client, where its operation under way began, and whether it has crashed
  pub clients : List SeenClient
  pub starts : List ℕ
  pub client_crashed : List Bool
  -- by node number
  pub node_crashed : List Bool
  pub records : List Record
  pub place : ℕ

-- the operation under way, if there is one
abbrev pub started_task : ℕ → Option SeenTask → Option Task
started_task start None = None
started_task start (Some t) = Some (task_at start t)

-- the client of a number
abbrev pub client_at : SeenWorld → ℕ → SeenClient
client_at w c = slice_index_or w.clients c new_client

-- the world that is seen so
abbrev pub world_of : Setting → SeenWorld → World
world_of s w = record {
  pool = w.pool;
  versions = λ i block. slice_index_or (slice_index_or w.versions i []) block (first_version s i ∷ []);
  accepted = w.accepted;
  task = λ c. started_task (slice_index_or w.starts c 0) (client_at w c).task;
  life = λ c. (client_at w c).life;
  started = λ c. (client_at w c).started;
  node_crashed = λ i. slice_index_or w.node_crashed i false;
  client_crashed = λ c. slice_index_or w.client_crashed c false;
  records = w.records;
  place = w.place;
}
