-- What a command does that writes a text: it reads all, makes the text, and only then writes it.
use Rattle.std.specs.Prelude.{ℕ, ◌≡◌, ◌≢◌, ◌⊎◌, ◌≤◌, ◌+◌, ⊤, List, length, Option, Result, Ok, Err}
use Rattle.std.specs.declared.option.Option.TheVariants.{None, Some}
use Rattle.outside_io.specs.declared.source.Source.{Ghosts as SeenSource}
use Rattle.outside_io.specs.declared.sink.Sink.{Ghosts as SeenSink}
use Rattle.outside_io.specs.declared.reading.TheConstants.{LIMIT}
use Rattle.outside_io.specs.Given.{GaveAtMost, GaveExactly}
use Rattle.outside_io.specs.Written.{Adds, AllFlushed, TakesPrefix}
use Rattle.event_clock.specs.Passes.{Tally}
use Rattle.plan_words.specs.declared.plan.Plan.{Plan}
use Rattle.plan_words.specs.Plans.{Fits}
use Rattle.plan_text.specs.Plans.{Spells}
use Rattle.history_book.specs.declared.judging.Flaw.{Flaw}
use Rattle.command_texts.specs.Words.{RunsInput, RunsLoad}
use Rattle.command_texts.specs.Texts.{AnswersFor, IsRefusedFor, IsAccepted, ReadsInput}
use Rattle.command_texts.specs.Statuses.{status_of_flaw, status_of_refusal}
use Rattle.command_texts.specs.declared.words.Command.{Command}
use Rattle.command_texts.specs.declared.text.Answer.{Answer}
use Rattle.command_texts.specs.declared.status.Status.{Status}
use Rattle.command_texts.specs.declared.status.Status.TheVariants.{Done, Illegal, BadWords, BadScript, ReadFault, WriteFault, NoMemory, TooLong, ClockFull, BadMagic, CutRequest, TooManyRequests}
use Rattle.command_texts.specs.declared.refusal.Refusal.{Refusal}
use Rattle.command_texts.specs.declared.refusal.Refusal.TheVariants as refusals
use Rattle.pasis_shell.specs.Calls.{Call, left, left_after, taken, taken_after, flushed, flushed_after, WriteFailed, IsCalm}

-- why a command has no text to write, by what the source gave. A script is refused by its first line that has a cause, and that
-- line's first cause
abbrev pub StopsFor : Command → Status → Option (List ℕ) → Option (List ℕ) → Type 0
StopsFor command NoMemory before after = ⊤
StopsFor command ReadFault before after = ReadsInput command × GaveAtMost LIMIT before after
StopsFor command TooLong before after = ReadsInput command × GaveExactly (LIMIT + 1) before after
StopsFor command (BadScript line cause) before after = IsRefusedFor command before after (refusals.BadScript (record { line = line; cause = cause }))
StopsFor command (ClockFull drawn) before after = IsRefusedFor command before after (refusals.ClockFull drawn)
StopsFor command Done before after = ⊥
StopsFor command (Illegal flaw) before after = ⊥
StopsFor command BadWords before after = ⊥
StopsFor command WriteFault before after = ⊥
StopsFor command (BadMagic at) before after = ⊥
StopsFor command (CutRequest at) before after = ⊥
StopsFor command TooManyRequests before after = ⊥

-- what became of what a command made: of a text, that it was written whole and flushed, or begun and not flushed, where the sink failed; of a
-- refusal, that the status tells it
abbrev pub IsWritten : Result Answer Refusal → Status → (taken_old taken_new : Option (List ℕ)) → (flushed_old flushed_new : ℕ) → Type 0
IsWritten (Ok answer) status old new flushed_old flushed_new =
    ((status ≡ status_of_flaw answer.flaw) × Adds old new answer.text × AllFlushed new flushed_new)
    ⊎ ((status ≡ WriteFault) × TakesPrefix old new answer.text × (flushed_new ≡ flushed_old))
IsWritten (Err refusal) status old new flushed_old flushed_new = status ≡ status_of_refusal refusal

-- an accepted input is answered, or memory was wanting
abbrev pub IsAnswered : Status → Type 0
IsAnswered status = (status ≡ Done) ⊎ ((flaw : Flaw) × (status ≡ Illegal flaw)) ⊎ (status ≡ NoMemory)

-- a run is answered, or memory was wanting, or the clock was full
abbrev pub HasRun : Status → Type 0
HasRun status = (status ≡ Done) ⊎ (status ≡ NoMemory) ⊎ ((drawn : Tally) × (status ≡ ClockFull drawn))

module _ {S K : Type 0} {seen_source : SeenSource S} {seen_sink : SeenSink K} where
  -- the text was written whole and flushed, and the flaw is what was found
  abbrev pub HasWritten : Command → Option Flaw → Call seen_source seen_sink → Type 0
  HasWritten command flaw call =
      (text : List ℕ) × AnswersFor command (left call) (left_after call) text flaw × Adds (taken call) (taken_after call) text × AllFlushed (taken_after call) (flushed_after call)

  -- a beginning of the text was taken, and nothing was flushed
  abbrev pub HasBegun : Command → Call seen_source seen_sink → Type 0
  HasBegun command call =
      (text : List ℕ) × (flaw : Option Flaw) × AnswersFor command (left call) (left_after call) text flaw × TakesPrefix (taken call) (taken_after call) text
      × (flushed_after call ≡ flushed call)

  -- what was read and written, by the status
  abbrev pub Ends : Command → Status → Call seen_source seen_sink → Type 0
  Ends command Done call = HasWritten command None call
  Ends command (Illegal flaw) call = HasWritten command (Some flaw) call
  Ends command WriteFault call = HasBegun command call
  Ends command status call = StopsFor command status (left call) (left_after call)

  -- what such a command did
  pub record DoesText (command : Command) (status : Status) (call : Call seen_source seen_sink) : Type 0 where
    pub ends : Ends command status call
    pub most : GaveAtMost (LIMIT + 1) (left call) (left_after call)
    pub unwritten : status ≢ Done → ((flaw : Flaw) → status ≢ Illegal flaw) → status ≢ WriteFault → call.sink_after ≡ call.sink
    -- where neither the source nor the sink fails: an input that is accepted, a plan that can be run, and a load
    pub complete : (input : List ℕ) → left call ≡ Some input → length input ≤ LIMIT → IsAccepted command input → IsCalm call → IsAnswered status
    pub complete_plan : RunsInput command → (input : List ℕ) (plan : Plan) → left call ≡ Some input → length input ≤ LIMIT → Fits plan → Spells input plan → IsCalm call → HasRun status
    pub complete_load : RunsLoad command → (WriteFailed call → ⊥) → HasRun status
