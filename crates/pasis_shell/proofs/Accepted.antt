-- An input that is accepted, and meets no fault, is answered.
use Rattle.std.proofs.Common.{◌≡◌, ℕ, ◌≤◌, ◌+◌, List, ◌++◌, length, ap, sym, subst, ◌∙◌, refl, inl, inr, arith, append-nil, length-append}
use Rattle.std.specs.Prelude.{⊤, Option, Some, None}
use Rattle.outside_io.specs.declared.source.Source.{Ghosts as SeenSource}
use Rattle.outside_io.specs.declared.sink.Sink.{Ghosts as SeenSink}
use Rattle.event_clock.specs.Passes.{Tally}
use Rattle.outside_io.specs.Given.{GaveExactly}
use Rattle.line_forms.specs.declared.refusal.ScriptFault.{ScriptFault}
use Rattle.outside_io.specs.declared.reading.TheConstants.{LIMIT}
use Rattle.history_book.specs.declared.judging.Flaw.{Flaw}
use Rattle.command_texts.specs.Words.{RunsInput, RunsLoad}
use Rattle.plan_words.specs.declared.plan.Plan.{Plan}
use Rattle.plan_words.specs.Plans.{Fits}
use Rattle.plan_text.specs.Plans.{Spells as SpellsPlan}
use Rattle.command_texts.specs.Texts.{Refuses, AnswersFor, IsAccepted, IsRefusedFor, GivesAll}
use Rattle.pasis_shell.specs.Calls.{Call, left, left_after}
use Rattle.pasis_shell.specs.Texts.{Ends, IsAnswered, HasRun}
use Rattle.pasis_shell.proofs.WellFormed.{plan_is_no_bad_script}
use Rattle.command_texts.specs.declared.status.Status.{Status}
use Rattle.command_texts.specs.declared.status.Status.TheVariants.{Done, Illegal, BadWords, BadScript, ReadFault, WriteFault, NoMemory, TooLong, ClockFull, BadMagic, CutRequest, TooManyRequests}
use Rattle.command_texts.specs.declared.words.Command.{Command}
use Rattle.command_texts.specs.declared.words.Command.TheVariants.{Replay, Run, Trace, Check, Sum, Soak}
use Rattle.command_texts.specs.declared.refusal.Refusal.{Refusal}
use Rattle.command_texts.specs.declared.refusal.Refusal.TheVariants as refusals

-- what was read to the end is all that there was
all_read : (before after : Option (List ℕ)) (input given : List ℕ) → before ≡ Some input → GivesAll before after given → given ≡ input
all_read None after input given e h = absurd cc
all_read (Some xs) None input given e h = absurd h.0
all_read (Some xs) (Some ys) input given e h =
    let same : xs ≡ input = cc in
    sym (sym same ∙ h.0 ∙ ap (λ z. given ++ z) h.1 ∙ append-nil given)

-- a source gives no more than it had
too_much : (before after : Option (List ℕ)) (input : List ℕ) (most : ℕ) → before ≡ Some input → length input ≤ most → GaveExactly (most + 1) before after → ⊥
too_much None after input most e small h = absurd cc
too_much (Some xs) None input most e small h = absurd h.1
too_much (Some xs) (Some ys) input most e small h =
    let same : xs ≡ input = cc in
    let size = ap length (sym same ∙ h.1) in
    omega (arith, size, length-append h.0 ys, h.2)

refused_by : (command : Command) (input given : List ℕ) (refusal : Refusal) → IsAccepted command input → given ≡ input → Refuses command given refusal → refusal ≡ refusals.NoMemory
refused_by command input given refusal accepted e h =
    let P : List ℕ → Type 0 = λ i. Refuses command i refusal in
    accepted refusal (subst P e h)

memory_missing : (command : Command) (before after : Option (List ℕ)) (input : List ℕ) (refusal : Refusal) → before ≡ Some input → IsAccepted command input → IsRefusedFor command before after refusal → refusal ≡ refusals.NoMemory
memory_missing Replay before after input refusal e accepted h = refused_by Replay input h.0 refusal accepted (all_read before after input h.0 e h.1) h.2
memory_missing (Run s) before after input refusal e accepted h = refused_by (Run s) input h.0 refusal accepted (all_read before after input h.0 e h.1) h.2
memory_missing (Trace s) before after input refusal e accepted h = refused_by (Trace s) input h.0 refusal accepted (all_read before after input h.0 e h.1) h.2
memory_missing Check before after input refusal e accepted h = refused_by Check input h.0 refusal accepted (all_read before after input h.0 e h.1) h.2
memory_missing Sum before after input refusal e accepted h = refused_by Sum input h.0 refusal accepted (all_read before after input h.0 e h.1) h.2
memory_missing (Soak n) before after input refusal e accepted h = refused_by (Soak n) input input refusal accepted refl h.2

fault_memory : (fault : ScriptFault) → refusals.BadScript fault ≡ refusals.NoMemory → ⊥
fault_memory fault e = cc

clock_memory : (drawn : Tally) → refusals.ClockFull drawn ≡ refusals.NoMemory → ⊥
clock_memory drawn e = cc

module _ {S K : Type 0} {seen_source : SeenSource S} {seen_sink : SeenSink K} (command : Command) (call : Call seen_source seen_sink) (input : List ℕ) where
  pub complete : (status : Status) → Ends command status call → left call ≡ Some input → length input ≤ LIMIT → IsAccepted command input → (status ≡ ReadFault → ⊥) → (status ≡ WriteFault → ⊥) → IsAnswered status
  complete Done h e small accepted read wrote = inl refl
  complete (Illegal flaw) h e small accepted read wrote = inr (inl (flaw, refl))
  complete NoMemory h e small accepted read wrote = inr (inr refl)
  complete ReadFault h e small accepted read wrote = absurd (read refl)
  complete WriteFault h e small accepted read wrote = absurd (wrote refl)
  complete TooLong h e small accepted read wrote = absurd (too_much (left call) (left_after call) input LIMIT e small h.1)
  complete (BadScript line cause) h e small accepted read wrote =
      let fault : ScriptFault = record { line = line; cause = cause } in
      absurd (fault_memory fault (memory_missing command (left call) (left_after call) input (refusals.BadScript fault) e accepted h))
  complete (ClockFull drawn) h e small accepted read wrote = absurd (clock_memory drawn (memory_missing command (left call) (left_after call) input (refusals.ClockFull drawn) e accepted h))
  complete BadWords h e small accepted read wrote = absurd h
  complete (BadMagic at) h e small accepted read wrote = absurd h
  complete (CutRequest at) h e small accepted read wrote = absurd h
  complete TooManyRequests h e small accepted read wrote = absurd h

-- ---- a plan that meets no fault

-- a plan is refused for want of memory, or by a clock that is full
abbrev IsLate : Refusal → Type 0
IsLate refusals.NoMemory = ⊤
IsLate (refusals.ClockFull drawn) = ⊤
IsLate (refusals.BadScript fault) = ⊥

module _ (input : List ℕ) (plan : Plan) (fits : Fits plan) (spelled : SpellsPlan input plan) where
  late : (command : Command) → RunsInput command → (refusal : Refusal) → Refuses command input refusal → IsLate refusal
  late command runs refusals.NoMemory h = tt
  late command runs (refusals.ClockFull drawn) h = tt
  late (Run s) runs (refusals.BadScript fault) h = plan_is_no_bad_script input plan fault fits spelled h
  late (Trace s) runs (refusals.BadScript fault) h = plan_is_no_bad_script input plan fault fits spelled h
  late Replay runs (refusals.BadScript fault) h = absurd runs
  late Check runs (refusals.BadScript fault) h = absurd runs
  late Sum runs (refusals.BadScript fault) h = absurd runs
  late (Soak n) runs (refusals.BadScript fault) h = absurd runs

  late_for : (command : Command) → RunsInput command → (before after : Option (List ℕ)) (refusal : Refusal) → before ≡ Some input → IsRefusedFor command before after refusal → IsLate refusal
  late_for (Run s) runs before after refusal there h =
      late (Run s) tt refusal (subst (λ (i : List ℕ). Refuses (Run s) i refusal) (all_read before after input h.0 there h.1) h.2)
  late_for (Trace s) runs before after refusal there h =
      late (Trace s) tt refusal (subst (λ (i : List ℕ). Refuses (Trace s) i refusal) (all_read before after input h.0 there h.1) h.2)
  late_for Replay runs before after refusal there h = absurd runs
  late_for Check runs before after refusal there h = absurd runs
  late_for Sum runs before after refusal there h = absurd runs
  late_for (Soak n) runs before after refusal there h = absurd runs

some_none : (flaw : Flaw) → Some flaw ≡ None → ⊥
some_none flaw e = cc

-- no flaw is found of a run
no_flaw : (command : Command) → RunsInput command → (before after : Option (List ℕ)) (text : List ℕ) (flaw : Flaw) → AnswersFor command before after text (Some flaw) → ⊥
no_flaw (Run s) runs before after text flaw h = some_none flaw h.2.1
no_flaw (Trace s) runs before after text flaw h = some_none flaw h.2.1
no_flaw Replay runs before after text flaw h = absurd runs
no_flaw Check runs before after text flaw h = absurd runs
no_flaw Sum runs before after text flaw h = absurd runs
no_flaw (Soak n) runs before after text flaw h = absurd runs

module _ {S K : Type 0} {seen_source : SeenSource S} {seen_sink : SeenSink K} (command : Command) (call : Call seen_source seen_sink) (input : List ℕ) (plan : Plan) (fits : Fits plan) (spelled : SpellsPlan input plan) (runs : RunsInput command) where
  pub plan_runs : (status : Status) → Ends command status call → left call ≡ Some input → length input ≤ LIMIT → (status ≡ ReadFault → ⊥) → (status ≡ WriteFault → ⊥) → HasRun status
  plan_runs Done h e small read wrote = inl refl
  plan_runs NoMemory h e small read wrote = inr (inl refl)
  plan_runs (ClockFull drawn) h e small read wrote = inr (inr (drawn, refl))
  plan_runs (Illegal flaw) h e small read wrote = absurd (no_flaw command runs (left call) (left_after call) h.0 flaw h.1)
  plan_runs ReadFault h e small read wrote = absurd (read refl)
  plan_runs WriteFault h e small read wrote = absurd (wrote refl)
  plan_runs TooLong h e small read wrote = absurd (too_much (left call) (left_after call) input LIMIT e small h.1)
  plan_runs (BadScript line cause) h e small read wrote =
      absurd (late_for input plan fits spelled command runs (left call) (left_after call) (refusals.BadScript (record { line = line; cause = cause })) e h)
  plan_runs BadWords h e small read wrote = absurd h
  plan_runs (BadMagic at) h e small read wrote = absurd h
  plan_runs (CutRequest at) h e small read wrote = absurd h
  plan_runs TooManyRequests h e small read wrote = absurd h

-- ---- a load

-- no flaw is found of a load, nothing is read, and no script is bad
module _ {S K : Type 0} {seen_source : SeenSource S} {seen_sink : SeenSink K} (number : ℕ) (call : Call seen_source seen_sink) where
  soak_runs : (status : Status) → Ends (Soak number) status call → (status ≡ WriteFault → ⊥) → HasRun status
  soak_runs Done h wrote = inl refl
  soak_runs NoMemory h wrote = inr (inl refl)
  soak_runs (ClockFull drawn) h wrote = inr (inr (drawn, refl))
  soak_runs (Illegal flaw) h wrote = absurd (some_none flaw h.1.2.1)
  soak_runs ReadFault h wrote = absurd h.0
  soak_runs WriteFault h wrote = absurd (wrote refl)
  soak_runs TooLong h wrote = absurd h.0
  soak_runs (BadScript line cause) h wrote = absurd h.2
  soak_runs BadWords h wrote = absurd h
  soak_runs (BadMagic at) h wrote = absurd h
  soak_runs (CutRequest at) h wrote = absurd h
  soak_runs TooManyRequests h wrote = absurd h

pub load_runs : {S K : Type 0} {seen_source : SeenSource S} {seen_sink : SeenSink K} (command : Command) (call : Call seen_source seen_sink) → RunsLoad command → (status : Status) → Ends command status call → (status ≡ WriteFault → ⊥) → HasRun status
load_runs (Soak n) call runs status h wrote = soak_runs n call status h wrote
load_runs Replay call runs status h wrote = absurd runs
load_runs (Run s) call runs status h wrote = absurd runs
load_runs (Trace s) call runs status h wrote = absurd runs
load_runs Check call runs status h wrote = absurd runs
load_runs Sum call runs status h wrote = absurd runs
