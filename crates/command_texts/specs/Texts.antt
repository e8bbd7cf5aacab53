-- What a command writes for an input, and when it writes nothing.
use Rattle.std.specs.Prelude.{ℕ, ◌≡◌, ◌⊎◌, ◌≤◌, ⊤, List, [], length, Option}
use Rattle.std.specs.declared.option.Option.TheVariants.{None}
use Rattle.std.specs.Io.KnownBytes.{Consumes, IsAtEnd}
use Rattle.outside_io.specs.declared.reading.TheConstants.{LIMIT}
use Rattle.history_book.specs.declared.judging.Flaw.{Flaw}
use Rattle.history_book.specs.ReportTexts.{report}
use Rattle.command_texts.specs.Replays.{Replays, Stops}
use Rattle.command_texts.specs.Verdicts.{Judges}
use Rattle.command_texts.specs.declared.words.Command.{Command}
use Rattle.command_texts.specs.declared.words.Command.TheVariants.{Replay, Run, Trace, Check, Sum, Soak}
use Rattle.command_texts.specs.declared.refusal.Refusal.{Refusal}
use Rattle.command_texts.specs.declared.refusal.Refusal.TheVariants.{NoMemory, BadScript, ClockFull}
use Rattle.quorum_rules.specs.Limits.{Numbers}
use Rattle.line_forms.specs.declared.refusal.ScriptFault.{ScriptFault}
use Rattle.line_forms.specs.Texts.{IsFault, IsFaultless}
use Rattle.script_text.specs.Replays.{replay_script}
use Rattle.script_text.specs.Sum.{IsSum, sum_text, sum_script}
use Rattle.command_texts.specs.Shown.{shown_text}
use Rattle.plan_text.specs.Plans.{plan_script}
use Rattle.event_clock.specs.Passes.{HasFullPass}
use Rattle.command_texts.specs.PlanRuns.{IsPlan, Runs, Traces, Soaks}

-- the input spells a configuration and a value, and the text shows the value's fragments, their digests and its verifier
pub record Shows (input text : List ℕ) : Type 0 where
  pub config : Numbers
  pub value : List ℕ
  pub fits : IsSum config value
  pub spelled : input ≡ sum_text config value
  pub faultless : IsFaultless sum_script input
  pub shown : text ≡ shown_text config.n config.m value

-- the command writes this text for the input; the flaw is what `check` finds, and no other command has one
abbrev pub Writes : Command → List ℕ → List ℕ → Option Flaw → Type 0
Writes Replay input text flaw = Replays input text × (flaw ≡ None)
Writes (Run serving) input text flaw = Runs input text × (flaw ≡ None)
Writes (Trace serving) input text flaw = Traces input text × (flaw ≡ None)
Writes Check input text flaw = Judges input text flaw
Writes Sum input text flaw = Shows input text × (flaw ≡ None)
Writes (Soak number) input text flaw = Soaks number text × (flaw ≡ None)

-- the fault is the input's: its first line that has a cause, and that line's first cause; or, where no line has one, the first line of a script that can't take place
abbrev pub HasFault : Command → List ℕ → ScriptFault → Type 0
HasFault Replay input fault = IsFault replay_script input fault.line fault.cause ⊎ Stops input fault
HasFault (Run serving) input fault = IsFault plan_script input fault.line fault.cause
HasFault (Trace serving) input fault = IsFault plan_script input fault.line fault.cause
HasFault Check input fault = IsFault report input fault.line fault.cause
HasFault Sum input fault = IsFault sum_script input fault.line fault.cause
HasFault (Soak number) input fault = ⊥

-- the command runs the plan that the input spells, or the load of its number
abbrev pub RunsIt : Command → List ℕ → Type 0
RunsIt Replay input = ⊥
RunsIt (Run serving) input = IsPlan input
RunsIt (Trace serving) input = IsPlan input
RunsIt Check input = ⊥
RunsIt Sum input = ⊥
RunsIt (Soak number) input = ⊤

-- the command writes nothing for the input, for this reason
abbrev pub Refuses : Command → List ℕ → Refusal → Type 0
Refuses command input NoMemory = ⊤
Refuses command input (BadScript fault) = HasFault command input fault
Refuses command input (ClockFull drawn) = RunsIt command input × HasFullPass drawn

-- the command reads all that the source has: `soak` reads nothing
abbrev pub ReadsInput : Command → Type 0
ReadsInput Replay = ⊤
ReadsInput (Run serving) = ⊤
ReadsInput (Trace serving) = ⊤
ReadsInput Check = ⊤
ReadsInput Sum = ⊤
ReadsInput (Soak number) = ⊥

-- the source gave this input, which is within the limit, and has none left
abbrev pub GivesAll : Option (List ℕ) → Option (List ℕ) → List ℕ → Type 0
GivesAll before after input = Consumes before after input × IsAtEnd after × (length input ≤ LIMIT)

-- what a command works on: all that the source had, and nothing for `soak`, which leaves the source as it was
abbrev pub IsGiven : Command → Option (List ℕ) → Option (List ℕ) → List ℕ → Type 0
IsGiven (Soak number) before after input = (after ≡ before) × (input ≡ [])
IsGiven Replay before after input = GivesAll before after input
IsGiven (Run serving) before after input = GivesAll before after input
IsGiven (Trace serving) before after input = GivesAll before after input
IsGiven Check before after input = GivesAll before after input
IsGiven Sum before after input = GivesAll before after input

-- the text is what the command writes for what it was given, and the flaw what it finds
abbrev pub AnswersFor : Command → Option (List ℕ) → Option (List ℕ) → List ℕ → Option Flaw → Type 0
AnswersFor command before after text flaw = (input : List ℕ) × IsGiven command before after input × Writes command input text flaw

-- the command refuses what it was given
abbrev pub IsRefusedFor : Command → Option (List ℕ) → Option (List ℕ) → Refusal → Type 0
IsRefusedFor command before after refusal = (input : List ℕ) × IsGiven command before after input × Refuses command input refusal

-- the command refuses the input for want of memory alone
abbrev pub IsAccepted : Command → List ℕ → Type 0
IsAccepted command input = (refusal : Refusal) → Refuses command input refusal → refusal ≡ NoMemory
