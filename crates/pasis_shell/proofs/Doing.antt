-- What a command did that writes a text, of what it was given and what became of what it made.
use Rattle.std.proofs.Common.{◌≡◌, ◌≢◌, ℕ, ◌+◌, List, refl, sym, ◌∙◌, inl, inr, subst, Ok, Err, IfOk, IfErr, OnErr}
use Rattle.std.specs.Prelude.{Option, Result}
use Rattle.std.specs.declared.option.Option.TheVariants.{None, Some}
use Rattle.outside_io.specs.declared.source.Source.{Ghosts as SeenSource}
use Rattle.outside_io.specs.declared.sink.Sink.{Ghosts as SeenSink}
use Rattle.outside_io.specs.declared.reading.TheConstants.{LIMIT}
use Rattle.outside_io.specs.Given.{GaveAtMost}
use Rattle.outside_io.specs.Written.{Adds, AllFlushed}
use Rattle.history_book.specs.declared.judging.Flaw.{Flaw}
use Rattle.command_texts.specs.Texts.{Writes, Refuses, AnswersFor, IsRefusedFor, IsGiven}
use Rattle.command_texts.specs.Statuses.{status_of_flaw, status_of_refusal}
use Rattle.command_texts.specs.declared.words.Command.{Command}
use Rattle.command_texts.specs.declared.text.Answer.{Answer}
use Rattle.command_texts.specs.declared.status.Status.{Status}
use Rattle.command_texts.specs.declared.status.Status.TheVariants.{Done, Illegal, BadWords, BadScript, ReadFault, WriteFault, NoMemory, TooLong, ClockFull, BadMagic, CutRequest, TooManyRequests}
use Rattle.command_texts.specs.declared.refusal.Refusal.{Refusal}
use Rattle.command_texts.specs.declared.refusal.Refusal.TheVariants as refusals
use Rattle.pasis_shell.specs.Calls.{Call, left, left_after, taken, taken_after, flushed, flushed_after, ReadFailed, WriteFailed, TellsFaults}
use Rattle.pasis_shell.specs.Texts.{StopsFor, IsWritten, Ends, DoesText}
use Rattle.pasis_shell.proofs.Accepted.{complete, plan_runs, load_runs}

-- ---- statuses of what was made

flaw_told : (flaw : Option Flaw) (status : Status) → status ≡ status_of_flaw flaw → status ≢ Done → ((found : Flaw) → status ≢ Illegal found) → ⊥
flaw_told None status e done illegal = done e
flaw_told (Some flaw) status e done illegal = illegal flaw e

flaw_read : (flaw : Option Flaw) → status_of_flaw flaw ≡ ReadFault → ⊥
flaw_read None e = cc
flaw_read (Some flaw) e = cc

refusal_read : (refusal : Refusal) → status_of_refusal refusal ≡ ReadFault → ⊥
refusal_read refusals.NoMemory e = cc
refusal_read (refusals.BadScript fault) e = cc
refusal_read (refusals.ClockFull drawn) e = cc

write_read : WriteFault ≡ ReadFault → ⊥
write_read e = cc

-- what was made tells of no fault of the source
never_read : (made : Result Answer Refusal) (status : Status) (old new : Option (List ℕ)) (flushed_old flushed_new : ℕ) → IsWritten made status old new flushed_old flushed_new → status ≡ ReadFault → ⊥
never_read (Ok answer) status old new flushed_old flushed_new (inl h) e = flaw_read answer.flaw (sym h.0 ∙ e)
never_read (Ok answer) status old new flushed_old flushed_new (inr h) e = write_read (sym h.0 ∙ e)
never_read (Err refusal) status old new flushed_old flushed_new h e = refusal_read refusal (sym h ∙ e)

module _ {S K : Type 0} {seen_source : SeenSource S} {seen_sink : SeenSink K} (command : Command) (call : Call seen_source seen_sink) where
  -- ---- how it ended

  stopped : (status : Status) → StopsFor command status (left call) (left_after call) → Ends command status call
  stopped NoMemory h = h
  stopped ReadFault h = h
  stopped TooLong h = h
  stopped (BadScript line cause) h = h
  stopped (ClockFull drawn) h = h
  stopped Done h = absurd h
  stopped (Illegal flaw) h = absurd h
  stopped BadWords h = absurd h
  stopped WriteFault h = absurd h
  stopped (BadMagic at) h = absurd h
  stopped (CutRequest at) h = absurd h
  stopped TooManyRequests h = absurd h

  refused : (refusal : Refusal) → IsRefusedFor command (left call) (left_after call) refusal → StopsFor command (status_of_refusal refusal) (left call) (left_after call)
  refused refusals.NoMemory h = tt
  refused (refusals.BadScript fault) h = h
  refused (refusals.ClockFull drawn) h = h

  whole : (flaw : Option Flaw) (text : List ℕ) → AnswersFor command (left call) (left_after call) text flaw → Adds (taken call) (taken_after call) text → AllFlushed (taken_after call) (flushed_after call)
      → Ends command (status_of_flaw flaw) call
  whole None text answer adds all = (text, answer, adds, all)
  whole (Some flaw) text answer adds all = (text, answer, adds, all)

  ended : (input : List ℕ) → IsGiven command (left call) (left_after call) input → (made : Result Answer Refusal) (status : Status) → IfOk made (λ a. Writes command input a.text a.flaw) → IfErr made (λ r. Refuses command input r)
      → IsWritten made status (taken call) (taken_after call) (flushed call) (flushed_after call) → Ends command status call
  ended input given (Ok answer) status writes refuses (inl h) =
      subst (λ (s : Status). Ends command s call) (sym h.0) (whole answer.flaw answer.text (input, given, writes) h.1 h.2)
  ended input given (Ok answer) status writes refuses (inr h) =
      subst (λ (s : Status). Ends command s call) (sym h.0) (answer.text, answer.flaw, (input, given, writes), h.1, h.2)
  ended input given (Err refusal) status writes refuses h =
      subst (λ (s : Status). Ends command s call) (sym h) (stopped (status_of_refusal refusal) (refused refusal (input, given, refuses)))

  -- a refusal is told before anything was written
  unwritten : (made : Result Answer Refusal) (status : Status) → IsWritten made status (taken call) (taken_after call) (flushed call) (flushed_after call) → OnErr made (call.sink_after ≡ call.sink)
      → status ≢ Done → ((flaw : Flaw) → status ≢ Illegal flaw) → status ≢ WriteFault → call.sink_after ≡ call.sink
  unwritten (Ok answer) status (inl h) same done illegal wrote = absurd (flaw_told answer.flaw status h.0 done illegal)
  unwritten (Ok answer) status (inr h) same done illegal wrote = absurd (wrote h.0)
  unwritten (Err refusal) status h same done illegal wrote = same

  -- ---- all that it did

  does : (status : Status) → Ends command status call → GaveAtMost (LIMIT + 1) (left call) (left_after call)
      → (status ≢ Done → ((flaw : Flaw) → status ≢ Illegal flaw) → status ≢ WriteFault → call.sink_after ≡ call.sink) → TellsFaults status call → DoesText command status call
  does status ends most unwritten faults = record {
    ends = ends;
    most = most;
    unwritten = unwritten;
    complete = λ input told small accepted calm. complete command call input status ends told small accepted (λ e. calm.read (faults.read_fault e)) (λ e. calm.written (faults.write_fault e));
    complete_plan = λ runs input plan told small fits spelled calm.
        plan_runs command call input plan fits spelled runs status ends told small (λ e. calm.read (faults.read_fault e)) (λ e. calm.written (faults.write_fault e));
    complete_load = λ runs calm. load_runs command call runs status ends (λ e. calm (faults.write_fault e));
  }

  -- where the input was not read
  module _ (status : Status) (stops : StopsFor command status (left call) (left_after call)) (same : call.sink_after ≡ call.sink) where
    never_wrote : status ≡ WriteFault → ⊥
    never_wrote e = subst (λ (s : Status). StopsFor command s (left call) (left_after call)) e stops

    pub unread_faults : (status ≡ ReadFault → ReadFailed call) → (status ≢ ReadFault → seen_source.faults call.source_after ≡ seen_source.faults call.source) → TellsFaults status call
    unread_faults read calm = record {
      read_fault = read;
      write_fault = λ e. absurd (never_wrote e);
      calm_source = calm;
      calm_sink = λ e. rw same refl;
    }

    pub unread_does : GaveAtMost (LIMIT + 1) (left call) (left_after call) → TellsFaults status call → DoesText command status call
    unread_does most faults = does status (stopped status stops) most (λ done illegal wrote. same) faults

  -- where it was read, and something made of it
  module _ (status : Status) (made : Result Answer Refusal) (done : IsWritten made status (taken call) (taken_after call) (flushed call) (flushed_after call)) where
    pub made_faults : seen_source.faults call.source_after ≡ seen_source.faults call.source → (status ≡ WriteFault → WriteFailed call)
        → (status ≢ WriteFault → seen_sink.faults call.sink_after ≡ seen_sink.faults call.sink) → TellsFaults status call
    made_faults read fault calm = record {
      read_fault = λ e. absurd (never_read made status (taken call) (taken_after call) (flushed call) (flushed_after call) done e);
      write_fault = fault;
      calm_source = λ e. read;
      calm_sink = calm;
    }

    pub made_does : (input : List ℕ) → IsGiven command (left call) (left_after call) input → IfOk made (λ a. Writes command input a.text a.flaw) → IfErr made (λ r. Refuses command input r)
        → OnErr made (call.sink_after ≡ call.sink) → GaveAtMost (LIMIT + 1) (left call) (left_after call) → TellsFaults status call → DoesText command status call
    made_does input given writes refuses same most faults = does status (ended input given made status writes refuses done) most (unwritten made status done same) faults
