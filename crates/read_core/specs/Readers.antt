-- What a reader is, and what an answer does to it.
use Rattle.std.specs.Prelude.{◌≡◌, ◌⊎◌, ℕ, ◌<◌, true, List, Option, IfSome, IsSomeAnd}
use Rattle.std.specs.declared.option.Option.TheVariants.{None, Some}
use Rattle.quorum_rules.specs.Limits.{Numbers, IsValid, repairable_of}
use Rattle.stamp_order.specs.declared.Stamp.{Stamp}
use Rattle.wire_forms.specs.declared.message.Tag.{Tag}
use Rattle.wire_forms.specs.declared.message.Reply.{Reply}
use Rattle.run_words.specs.declared.outcome.Outcome.TheVariants.{Gave, Outvoted as OutvotedBy}
use Rattle.protocol.specs.Count.{count}
use Rattle.protocol.specs.Setting.{Setting, first_stamp}
use Rattle.protocol.specs.Instance.{setting}
use Rattle.protocol.specs.Operations.{mail, is_there, stamps, Stage as ModelStage}
use Rattle.protocol.specs.Operations.Stage.{Versions}
use Rattle.protocol.specs.Operations.Work.{Reads}
use Rattle.protocol.specs.Seen.{SeenTask, SeenOperation, Hearing, answers_of, task_at, seen_counted, ends_phase, with_task}
use Rattle.protocol.specs.Seen.Hearing.{Ignored, Counted, Begins, Ended}
use Rattle.wire_forms.specs.declared.op.Op.TheVariants.{Read as ReadOp}
use Rattle.operation_core.specs.Counting.{begun_in, next_task, rounds_of}
use Rattle.read_core.specs.Ends.{IsReadStage, IsEnd}
use Rattle.read_core.specs.declared.read_end.ReadEnd.{ReadEnd}
use Rattle.read_core.specs.declared.reading.Reading.{Reading}
use Rattle.read_core.specs.declared.reading.Reading.TheVariants.{More, Send, Got, Outvoted}

-- the operation reads
pub record IsRead (t : SeenTask) : Type 0 where
  pub reads : t.work ≡ Reads
  pub stage : IsReadStage t.stage

-- a read as contracts see it: the operation that it is, and how many rounds of asking for versions it has begun, which it knows
-- also when it is over
pub record SeenRead : Type 0 where
  pub operation : SeenOperation
  pub rounds : ℕ

-- the numbers are valid, the first stamp is theirs, and the operation reads in so many rounds, unless it is over
pub record IsReader (first : Stamp) (o : SeenOperation) (rounds : ℕ) : Type 0 where
  pub valid : IsValid o.config
  pub begins : first ≡ first_stamp (setting o.config)
  pub read : IfSome o.task IsRead
  pub counted : IfSome o.task (λ t. rounds ≡ t.rounds)

-- a read that begins, in its first round
abbrev pub begun_read : Numbers → ℕ → ℕ → ℕ → SeenRead
begun_read c client op block = record { operation = begun_in c client op (ReadOp block); rounds = 1 }

-- the read that is under way then
abbrev pub task_after : Option SeenTask → Hearing → Option SeenTask
task_after task Ignored = task
task_after task (Counted t) = Some t
task_after task (Begins t) = Some t
task_after task (Ended outcome) = None

-- the read with this operation under way, or none: it has begun the rounds of that one, or as many as before
abbrev pub rounds_with : ℕ → Option SeenTask → ℕ
rounds_with rounds None = rounds
rounds_with rounds (Some t) = t.rounds

abbrev pub read_with : SeenRead → Option SeenTask → SeenRead
read_with r task = record { operation = with_task r.operation task; rounds = rounds_with r.rounds task }

-- what is told of the answer, by what it does to a read of so many rounds
abbrev pub IsReading : Setting → ℕ → ℕ → Hearing → Reading → Type 0
IsReading s client rounds hearing More = (hearing ≡ Ignored) ⊎ ((t : SeenTask) × (hearing ≡ Counted t))
IsReading s client rounds hearing (Send messages) = (t : SeenTask) × (hearing ≡ Begins t) × (messages ≡ mail s client (task_at 0 t))
IsReading s client rounds hearing (Got stamp value how) = hearing ≡ Ended (Gave stamp value how rounds)
IsReading s client rounds hearing (Outvoted nodes) = hearing ≡ Ended (OutvotedBy nodes)

abbrev pub TellsIn : SeenOperation → Hearing → Reading → Type 0
TellsIn o hearing reading = IsReading (setting o.config) o.client (rounds_of o.task) hearing reading

-- the reader after what an answer does to it
abbrev pub after_hearing : SeenRead → Hearing → SeenRead
after_hearing r hearing = read_with r (task_after r.operation.task hearing)

-- the read in its next phase
abbrev pub next_read : SeenRead → ModelStage → SeenRead
next_read r stage = read_with r (next_task r.operation.config r.operation.task stage)

-- the read is told to be outvoted
abbrev pub IsOutvoted : Reading → Type 0
IsOutvoted reading = (nodes : List ℕ) × (reading ≡ Outvoted nodes)

-- it is what the phase of the read under way comes to
abbrev pub EndsPhase : SeenOperation → ReadEnd → Type 0
EndsPhase o end = IfSome o.task (λ t. IsEnd o.config t.stage t.answers end)

-- fewer of a round's answers are valid than reach a pivot
abbrev pub FewAreValid : Numbers → ModelStage → (ℕ → Option Reply) → Type 0
FewAreValid c (Versions bound) answers = count c.n (λ i. is_there (stamps (setting c) answers bound i)) < repairable_of c
FewAreValid c _ answers = ⊥

-- the answer ends a round of which too few answers are valid
abbrev pub EndsOutvoted : Numbers → Option SeenTask → ℕ → Tag → Reply → Type 0
EndsOutvoted c task node tag reply =
    IsSomeAnd task (λ t. (ends_phase (setting c) task node tag reply ≡ true) × FewAreValid c t.stage (λ i. answers_of (seen_counted t node reply) i))
