-- The statuses, their numbers and the lines that tell of them.
use Rattle.std.specs.Prelude.{ℕ, ⊤, List, [], ◌++◌, Option, Result, Ok, Err, codes}
use Rattle.std.specs.Fmt.{decimal}
use Rattle.std.specs.declared.option.Option.TheVariants.{None, Some}
use Rattle.history_book.specs.declared.judging.Flaw.{Flaw}
use Rattle.outside_io.specs.declared.reading.ReadRefusal.{ReadRefusal}
use Rattle.outside_io.specs.declared.reading.ReadRefusal.TheVariants as reading
use Rattle.command_texts.specs.declared.status.Status.{Status}
use Rattle.command_texts.specs.declared.status.Status.TheVariants.{Done, Illegal, BadWords, BadScript, ReadFault, WriteFault, NoMemory, TooLong, ClockFull, BadMagic, CutRequest, TooManyRequests}
use Rattle.line_forms.specs.Numbers.{cause_number, carried_number}
use Rattle.line_forms.specs.declared.cause.Cause.{Cause}
use Rattle.line_forms.specs.declared.refusal.ScriptRefusal.{ScriptRefusal}
use Rattle.line_forms.specs.declared.refusal.ScriptRefusal.TheVariants as scripts
use Rattle.nbd_front.specs.declared.ending.Served.{Served}
use Rattle.nbd_front.specs.declared.ending.Served.TheVariants.{Next, Over}
use Rattle.nbd_front.specs.declared.ending.SessionEnd.{SessionEnd}
use Rattle.nbd_front.specs.declared.ending.SessionEnd.TheVariants as ends
use Rattle.event_clock.specs.declared.refusal.RunRefusal.{RunRefusal}
use Rattle.event_clock.specs.declared.refusal.RunRefusal.TheVariants as runs
use Rattle.command_texts.specs.declared.refusal.Refusal.{Refusal}
use Rattle.command_texts.specs.declared.refusal.Refusal.TheVariants as refusals

abbrev pub number_of : Status → ℕ
number_of Done = 0
number_of (Illegal flaw) = 1
number_of BadWords = 2
number_of (BadScript line cause) = 3
number_of ReadFault = 4
number_of WriteFault = 5
number_of NoMemory = 6
number_of TooLong = 8
number_of (ClockFull drawn) = 10
number_of (BadMagic at) = 11
number_of (CutRequest at) = 12
number_of TooManyRequests = 13

-- the number of the fault that a cause carries, after its point
abbrev pub fault_text : Option ℕ → List ℕ
fault_text None = []
fault_text (Some fault) = codes "." ++ decimal fault

-- the numbers of a cause, and of the fault that it carries
abbrev pub cause_text : Cause → List ℕ
cause_text cause = decimal (cause_number cause) ++ fault_text (carried_number cause)

-- the line that tells of a status
abbrev pub status_text : Status → List ℕ
status_text Done = codes "pasis: done"
status_text (Illegal flaw) = codes "pasis: illegal history"
status_text BadWords = codes "pasis: bad words"
status_text (BadScript line cause) = codes "pasis: line " ++ decimal line ++ codes ": cause " ++ cause_text cause
status_text ReadFault = codes "pasis: read fault"
status_text WriteFault = codes "pasis: write fault"
status_text NoMemory = codes "pasis: no memory"
status_text TooLong = codes "pasis: input too long"
status_text (ClockFull drawn) = codes "pasis: clock full"
status_text (BadMagic at) = codes "pasis: bad magic at " ++ decimal at
status_text (CutRequest at) = codes "pasis: cut request at " ++ decimal at
status_text TooManyRequests = codes "pasis: too many requests"

abbrev pub status_of_read : ReadRefusal → Status
status_of_read reading.NoMemory = NoMemory
status_of_read reading.ReadFault = ReadFault
status_of_read reading.TooLong = TooLong

abbrev pub status_of_refusal : Refusal → Status
status_of_refusal refusals.NoMemory = NoMemory
status_of_refusal (refusals.ClockFull drawn) = ClockFull drawn
status_of_refusal (refusals.BadScript fault) = BadScript fault.line fault.cause

-- the status of a text that was written whole, by the flaw that was found
abbrev pub status_of_flaw : Option Flaw → Status
status_of_flaw None = Done
status_of_flaw (Some flaw) = Illegal flaw

-- the status can come before anything was written
abbrev pub CanStopBefore : Status → Type 0
CanStopBefore NoMemory = ⊤
CanStopBefore ReadFault = ⊤
CanStopBefore TooLong = ⊤
CanStopBefore (BadScript line cause) = ⊤
CanStopBefore (ClockFull drawn) = ⊤
CanStopBefore Done = ⊥
CanStopBefore (Illegal flaw) = ⊥
CanStopBefore BadWords = ⊥
CanStopBefore WriteFault = ⊥
CanStopBefore (BadMagic at) = ⊥
CanStopBefore (CutRequest at) = ⊥
CanStopBefore TooManyRequests = ⊥

-- why no text is written for a script that is refused so
abbrev pub refusal_of : ScriptRefusal → Refusal
refusal_of scripts.NoMemory = refusals.NoMemory
refusal_of (scripts.Fault fault) = refusals.BadScript fault

-- why no text is written where the run of a plan stops so
abbrev pub refusal_of_run : RunRefusal → Refusal
refusal_of_run runs.NoMemory = refusals.NoMemory
refusal_of_run (runs.ClockFull drawn) = refusals.ClockFull drawn

-- the status of a session that ended so
abbrev pub status_of_session : Result Served SessionEnd → Status
status_of_session (Ok Next) = Done
status_of_session (Ok Over) = Done
status_of_session (Err ends.NoMemory) = NoMemory
status_of_session (Err ends.ReadFault) = ReadFault
status_of_session (Err ends.WriteFault) = WriteFault
status_of_session (Err (ends.BadMagic at)) = BadMagic at
status_of_session (Err (ends.CutRequest at)) = CutRequest at
status_of_session (Err ends.TooManyRequests) = TooManyRequests
