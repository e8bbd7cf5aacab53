-- What a writer is, what it says to an answer, and what it is then.
use Rattle.std.specs.Prelude.{◌≡◌, ℕ, ◌-◌, ◌^◌, true, List, Option, None, Some, IfSome, IsSomeAnd}
use Rattle.quorum_rules.specs.Limits.{Numbers}
use Rattle.protocol.specs.Messages.{Stamp, Reply, Tag}
use Rattle.protocol.specs.Operations.{Outcome, Stage, drawn_from, mail, value_of}
use Rattle.protocol.specs.Setting.{verifier_of}
use Rattle.operation_core.specs.declared.stage.Storing.{Storing as Stored}
use Rattle.protocol.specs.Operations.Work.{Writes}
use Rattle.protocol.specs.Operations.Stage.{Times, Versions, Storing}
use Rattle.protocol.specs.Seen.{SeenTask, SeenOperation, Hearing, task_at, answers_of, seen_counted, ends_phase, with_task}
use Rattle.protocol.specs.Seen.Hearing.{Ignored, Counted, Begins, Ended}
use Rattle.protocol.specs.Instance.{setting}
use Rattle.run_words.specs.declared.outcome.Outcome.TheVariants.{Wrote as WroteIt, Spent as SpentIt}
use Rattle.write_core.specs.declared.writer.Writing.{Writing}
use Rattle.write_core.specs.declared.writer.Writing.TheVariants.{More, Send, Wrote, Spent}

-- a write asks for times in its first phase, and then stores its value
abbrev pub IsWritePhase : ℕ → Stage → Type 0
IsWritePhase phase Times = phase ≡ 1
IsWritePhase phase (Versions bound) = ⊥
IsWritePhase phase (Storing stamp value) = Unit {0}

-- the operation writes a value
pub record IsWrite (t : SeenTask) : Type 0 where
  pub value : List ℕ
  pub writes : t.work ≡ Writes value
  pub phase : IsWritePhase t.phase t.stage

-- an operation that writes, unless it is over
abbrev pub IsWriter : SeenOperation → Type 0
IsWriter o = IfSome o.task IsWrite

-- the answer ends a phase that asks for times, and the time that is then drawn has none after it
abbrev pub FindsLastTime : Numbers → Option SeenTask → ℕ → Tag → Reply → Type 0
FindsLastTime config task node tag reply =
    IsSomeAnd task (λ t. (t.stage ≡ Times) × (ends_phase (setting config) task node tag reply ≡ true) × (drawn_from (setting config) (λ i. answers_of (seen_counted t node reply) i) ≡ 2 ^ 64 - 1))

-- the operation after what an answer does to it
abbrev pub after_hearing : SeenOperation → Hearing → SeenOperation
after_hearing o Ignored = o
after_hearing o (Counted t) = with_task o (Some t)
after_hearing o (Begins t) = with_task o (Some t)
after_hearing o (Ended outcome) = with_task o None

-- how a writer tells that it ended
abbrev pub ended_as : Outcome → Writing
ended_as (WroteIt stamp) = Wrote stamp
ended_as SpentIt = Spent
ended_as _ = More

-- what a writer says: that the phase goes on, the messages of the next one, or how the write ended
abbrev pub said_of : SeenOperation → Hearing → Writing
said_of o Ignored = More
said_of o (Counted t) = More
said_of o (Begins t) = Send (mail (setting o.config) o.client (task_at 0 t))
said_of o (Ended outcome) = ended_as outcome

-- a client's stamp of this time, for a value
abbrev pub drawn_stamp : Numbers → ℕ → ℕ → List ℕ → Stamp
drawn_stamp c client time value = record { time = time; client = client; verifier = verifier_of (setting c) value }

-- this is the operation's value, stored under the client's stamp of this time
abbrev pub IsUnder : SeenOperation → ℕ → Stored → Type 0
IsUnder o time s = IfSome o.task (λ t. (s.value ≡ value_of t.work) × (s.stamp ≡ drawn_stamp o.config o.client time (value_of t.work)))
