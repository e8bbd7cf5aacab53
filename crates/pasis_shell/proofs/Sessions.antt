-- What a session did, by how it ended.
use Rattle.std.proofs.Common.{◌≡◌, ◌≢◌, ◌⊎◌, ℕ, List, ◌∙◌, ap, refl, sym, inl, inr, Some, Result, Ok, Err, OnOk, IfErr}
use Rattle.std.specs.Prelude.{IsErrOf}
use Rattle.outside_io.specs.declared.source.Source.{Ghosts as SeenSource}
use Rattle.outside_io.specs.declared.sink.Sink.{Ghosts as SeenSink}
use Rattle.quorum_rules.specs.Limits.{Numbers}
use Rattle.outside_io.specs.Written.{AllFlushed}
use Rattle.nbd_front.specs.Sessions.{EndsSo, end_as}
use Rattle.nbd_front.specs.declared.ending.Served.{Served}
use Rattle.nbd_front.specs.declared.ending.Served.TheVariants.{Next, Over}
use Rattle.nbd_front.specs.declared.ending.SessionEnd.{SessionEnd}
use Rattle.nbd_front.specs.declared.ending.SessionEnd.TheVariants as ends
use Rattle.command_texts.specs.Statuses.{status_of_session}
use Rattle.command_texts.specs.declared.status.Status.{Status}
use Rattle.command_texts.specs.declared.status.Status.TheVariants.{BadWords, ReadFault, WriteFault, NoMemory}
use Rattle.pasis_shell.specs.Calls.{Call, left, taken_after, flushed_after, ReadFailed, WriteFailed, TellsFaults}
use Rattle.pasis_shell.specs.Sessions.{IsServed, Serves}

-- no session has bad words
pub never_bad : (end : Result Served SessionEnd) → status_of_session end ≡ BadWords → ⊥
never_bad (Ok Next) e = cc
never_bad (Ok Over) e = cc
never_bad (Err ends.NoMemory) e = cc
never_bad (Err ends.ReadFault) e = cc
never_bad (Err ends.WriteFault) e = cc
never_bad (Err (ends.BadMagic at)) e = cc
never_bad (Err (ends.CutRequest at)) e = cc
never_bad (Err ends.TooManyRequests) e = cc

-- a status tells of a fault only where the session ended by it
is_read : (ended : Result Unit SessionEnd) → status_of_session (end_as ended) ≡ ReadFault → IsErrOf ended ends.ReadFault
is_read (Ok done) e = absurd cc
is_read (Err ends.NoMemory) e = absurd cc
is_read (Err ends.ReadFault) e = refl
is_read (Err ends.WriteFault) e = absurd cc
is_read (Err (ends.BadMagic at)) e = absurd cc
is_read (Err (ends.CutRequest at)) e = absurd cc
is_read (Err ends.TooManyRequests) e = absurd cc

is_written : (ended : Result Unit SessionEnd) → status_of_session (end_as ended) ≡ WriteFault → IsErrOf ended ends.WriteFault
is_written (Ok done) e = absurd cc
is_written (Err ends.NoMemory) e = absurd cc
is_written (Err ends.ReadFault) e = absurd cc
is_written (Err ends.WriteFault) e = refl
is_written (Err (ends.BadMagic at)) e = absurd cc
is_written (Err (ends.CutRequest at)) e = absurd cc
is_written (Err ends.TooManyRequests) e = absurd cc

-- what is said of the two outcomes
told_so : (status : Status) (ended : Result Unit SessionEnd) → OnOk ended (status ≡ status_of_session (Ok Over)) → IfErr ended (λ end. status ≡ status_of_session (Err end)) → status ≡ status_of_session (end_as ended)
told_so status (Ok done) over told = over
told_so status (Err end) over told = told

module _ {S K : Type 0} {seen_source : SeenSource S} {seen_sink : SeenSink K} (c : Numbers) (call : Call seen_source seen_sink) where
  served_so : (ended : Result Unit SessionEnd) → OnOk ended (IsServed c (Ok Over) call) → IfErr ended (λ end. IsServed c (Err end) call) → IsServed c (end_as ended) call
  served_so (Ok done) over failed = over
  served_so (Err end) over failed = failed

  module _ (status : Status) (ended : Result Unit SessionEnd) (over : OnOk ended (status ≡ status_of_session (Ok Over))) (failed : IfErr ended (λ end. status ≡ status_of_session (Err end))) where
    told : status ≡ status_of_session (end_as ended)
    told = told_so status ended over failed

    told_as : (own : Result Unit SessionEnd) → ended ≡ own → status ≡ status_of_session (end_as own)
    told_as own e = told ∙ ap (λ (r : Result Unit SessionEnd). status_of_session (end_as r)) e

    -- where it met no fault, that is the end of its input
    own_end : (own : Result Served SessionEnd) → (end_as ended ≡ own) ⊎ (ended ≡ Err ends.NoMemory) → (status ≡ status_of_session own) ⊎ (status ≡ NoMemory)
    own_end own (inl same) = inl (told ∙ ap status_of_session same)
    own_end own (inr none) = inr (told_as (Err ends.NoMemory) none)

    pub serves : OnOk ended (IsServed c (Ok Over) call) → IfErr ended (λ end. IsServed c (Err end) call)
        → (ended ≢ Err ends.WriteFault → ended ≢ Err ends.NoMemory → AllFlushed (taken_after call) (flushed_after call))
        → ((input : List ℕ) (own : Result Served SessionEnd) → left call ≡ Some input → EndsSo own 0 0 input → (ReadFailed call → ⊥) → (WriteFailed call → ⊥) → (end_as ended ≡ own) ⊎ (ended ≡ Err ends.NoMemory))
        → Serves c status call
    serves done stopped flushed complete = record {
      end = end_as ended;
      told = told;
      session = served_so ended done stopped;
      flushed = λ no_fault memory. flushed (λ e. no_fault (told_as (Err ends.WriteFault) e)) (λ e. memory (told_as (Err ends.NoMemory) e));
      complete_session = λ input own has so calm. own_end own (complete input own has so calm.read calm.written);
    }

    pub session_faults : (IsErrOf ended ends.ReadFault → ReadFailed call) → (IsErrOf ended ends.WriteFault → WriteFailed call)
        → (ended ≢ Err ends.ReadFault → seen_source.faults call.source_after ≡ seen_source.faults call.source)
        → (ended ≢ Err ends.WriteFault → seen_sink.faults call.sink_after ≡ seen_sink.faults call.sink) → TellsFaults status call
    session_faults read wrote calm_source calm_sink = record {
      read_fault = λ e. read (is_read ended (sym told ∙ e));
      write_fault = λ e. wrote (is_written ended (sym told ∙ e));
      calm_source = λ no. calm_source (λ e. no (told_as (Err ends.ReadFault) e));
      calm_sink = λ no. calm_sink (λ e. no (told_as (Err ends.WriteFault) e));
    }
