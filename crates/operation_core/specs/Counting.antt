-- An operation as the code keeps it, and which answers it counts.
use Rattle.std.specs.Prelude.{◌≡◌, ℕ, ◌-◌, ◌^◌, ◌<◌, ◌≤◌, Bool, List, length, Option, IfSome, IsSomeAnd, slice_index_or}
use Rattle.std.specs.declared.option.Option.TheVariants.{None, Some}
use Rattle.quorum_rules.specs.Limits.{Numbers, IsValid}
use Rattle.wire_forms.specs.declared.op.Op.{Op}
use Rattle.protocol.specs.Messages.{Reply, Tag}
use Rattle.protocol.specs.Operations.{Work, Stage as ModelStage, Outcome, decide, answered, mail}
use Rattle.protocol.specs.Operations.Work.{Reads, Writes}
use Rattle.protocol.specs.Operations.Stage.{Times as AskTimes, Versions as AskVersions, Storing as Store}
use Rattle.protocol.specs.Seen.{SeenTask, SeenOperation, Hearing, task_at, block_of, work_of, seen_begun, seen_counted, seen_goes_on, by_decision, counts_of, ends_phase, hears, outstanding_of, with_task}
use Rattle.protocol.specs.Seen.Hearing.{Ignored as NotHeard, Begins as BeginsOne, Ended as EndedWith}
use Rattle.protocol.specs.Messages.{Message}
use Rattle.protocol.specs.Instance.{setting}
use Rattle.operation_core.specs.declared.stage.Stage.{Stage}
use Rattle.operation_core.specs.declared.phase_end.PhaseEnd.{PhaseEnd}
use Rattle.operation_core.specs.declared.phase_end.PhaseEnd.TheVariants.{Begins, Ends}
use Rattle.operation_core.specs.Stages.{stage_of, FitsStage}

-- the operation under way in this stage, or none
abbrev pub task_in : ℕ → Op → ℕ → ℕ → Option Stage → List (Option Reply) → Option SeenTask
task_in number op phase rounds None answers = None
task_in number op phase rounds (Some stage) answers =
    Some (record { op = number; block = block_of op; work = work_of op; phase = phase; rounds = rounds; stage = stage_of stage; answers = answers })

-- the answer of node i, if one was counted
abbrev pub answer_at : List (Option Reply) → ℕ → Option Reply
answer_at answers i = slice_index_or answers i None

-- a place for each node's answer, and how many there are; each round took a phase; what is stored is encoded
pub record IsOperation (c : Numbers) (phase rounds : ℕ) (stage : Option Stage) (answers : List (Option Reply)) (heard : ℕ) : Type 0 where
  pub valid : IsValid c
  pub places : length answers ≡ c.n
  pub counted : heard ≡ answered (setting c) (answer_at answers)
  pub few : rounds ≤ phase
  pub fits : IfSome stage (FitsStage c)

-- the task that begins so, its operation, and its first messages
abbrev pub begun_task : Numbers → ℕ → Op → SeenTask
begun_task c number op = seen_begun (setting c) number (block_of op) (work_of op)

abbrev pub begun_in : Numbers → ℕ → ℕ → Op → SeenOperation
begun_in c client number op = record { config = c; client = client; task = Some (begun_task c number op) }

abbrev pub first_mail : Numbers → ℕ → ℕ → Op → List Message
first_mail c client number op = mail (setting c) client (task_at 0 (begun_task c number op))

-- the present phase counts the answer; the answer ends it; what the answer does to the operation
abbrev pub counts_in : SeenOperation → ℕ → Tag → Reply → Bool
counts_in o node tag reply = counts_of (setting o.config) o.task node tag reply

abbrev pub ends_in : SeenOperation → ℕ → Tag → Reply → Bool
ends_in o node tag reply = ends_phase (setting o.config) o.task node tag reply

abbrev pub hears_in : SeenOperation → ℕ → Tag → Reply → Hearing
hears_in o node tag reply = hears (setting o.config) o.client o.task node tag reply

-- the present phase's message to a node, if there is an operation and such a node
abbrev pub outstanding_in : SeenOperation → ℕ → Option Message
outstanding_in o node = outstanding_of (setting o.config) o.client o.task node

-- what the end of a client's phase does to its operation, if there is one
abbrev pub ended_of : Numbers → ℕ → Option SeenTask → Hearing
ended_of config client None = NotHeard
ended_of config client (Some t) = by_decision (setting config) t (decide (setting config) client (task_at 0 t) t.stage)

-- what the end of its phase does to the operation
abbrev pub end_in : SeenOperation → Hearing
end_in o = ended_of o.config o.client o.task

-- the operation with one more answer counted
abbrev pub counted_task : Option SeenTask → ℕ → Reply → Option SeenTask
counted_task None node reply = None
counted_task (Some t) node reply = Some (seen_counted t node reply)

abbrev pub counted_in : SeenOperation → ℕ → Reply → SeenOperation
counted_in o node reply = with_task o (counted_task o.task node reply)

-- the operation in its next phase
abbrev pub next_task : Numbers → Option SeenTask → ModelStage → Option SeenTask
next_task c None stage = None
next_task c (Some t) stage = Some (seen_goes_on (setting c) t stage)

abbrev pub next_in : SeenOperation → ModelStage → SeenOperation
next_in o stage = with_task o (next_task o.config o.task stage)

-- these are the messages of the operation's present phase
abbrev pub IsMail : SeenOperation → List Message → Type 0
IsMail o messages = IfSome o.task (λ t. messages ≡ mail (setting o.config) o.client (task_at 0 t))

-- a further phase of a read asks for versions or stores one, and that of a write stores one
abbrev pub FitsWork : ModelStage → Work → Type 0
FitsWork AskTimes work = ⊥
FitsWork (AskVersions bound) Reads = Unit {0}
FitsWork (AskVersions bound) (Writes value) = ⊥
FitsWork (Store stamp value) work = Unit {0}

-- a next phase in this stage is one that the operation may have
pub record MayBegin (o : SeenOperation) (stage : Stage) : Type 0 where
  pub fits : FitsStage o.config stage
  pub further : IsSomeAnd o.task (λ t. FitsWork (stage_of stage) t.work × (t.phase < 2 ^ 64 - 1))

-- some answer does this to the operation
pub record AnswerDoes (o : SeenOperation) (h : Hearing) : Type 0 where
  pub node : ℕ
  pub tag : Tag
  pub reply : Reply
  pub hears : hears_in o node tag reply ≡ h

-- some answer ends the present phase, and by it the operation goes on in this stage
pub record GoesOn (o : SeenOperation) (stage : Stage) : Type 0 where
  pub may : MayBegin o stage
  pub task : SeenTask
  pub next : next_task o.config o.task (stage_of stage) ≡ Some task
  pub answer : AnswerDoes o (BeginsOne task)

-- some answer ends the present phase, and by it the operation
abbrev pub IsAtEnd : SeenOperation → Type 0
IsAtEnd o = (outcome : Outcome) × AnswerDoes o (EndedWith outcome)

-- by the hearing of an answer the operation goes on in this stage, with these messages
pub record IsBegun (o : SeenOperation) (h : Hearing) (stage : Stage) (messages : List Message) : Type 0 where
  pub task : SeenTask
  pub begins : h ≡ BeginsOne task
  pub next : next_task o.config o.task (stage_of stage) ≡ Some task
  pub may : MayBegin o stage
  pub mail : messages ≡ mail (setting o.config) o.client (task_at 0 task)

-- it is what the hearing of an answer that ends a phase does
abbrev pub IsPhaseEnd : SeenOperation → Hearing → PhaseEnd → Type 0
IsPhaseEnd o h (Begins stage messages) = IsBegun o h stage messages
IsPhaseEnd o h (Ends outcome) = h ≡ EndedWith outcome

-- how many rounds the operation under way has begun, 0 where none is
abbrev pub rounds_of : Option SeenTask → ℕ
rounds_of None = 0
rounds_of (Some t) = t.rounds

-- the stage is that of the operation under way; there is none where none is
abbrev pub IsStage : Option SeenTask → Option Stage → Type 0
IsStage None None = Unit {0}
IsStage (Some t) (Some stage) = t.stage ≡ stage_of stage
IsStage _ _ = ⊥
