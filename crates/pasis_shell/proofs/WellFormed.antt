-- Which inputs are refused for want of memory alone.
use Rattle.std.proofs.Common.{◌≡◌, ℕ, ◌+◌, List, [], ◌∷◌, ◌++◌, refl, sym, subst, inl, inr}
use Rattle.std.specs.declared.option.Option.TheVariants.{None, Some}
use Rattle.quorum_rules.specs.Limits.{Numbers}
use Rattle.wire_forms.specs.Liars.{Liars}
use Rattle.line_forms.specs.Texts.{IsFault}
use Rattle.line_forms.specs.declared.cause.Cause.{Cause}
use Rattle.line_forms.specs.declared.refusal.ScriptFault.{ScriptFault}
use Rattle.event_lines.specs.declared.line.ReplayLine.{ReplayLine}
use Rattle.protocol.specs.Setting.{Setting}
use Rattle.script_text.specs.Replays.{IsReplay, Spells, replay_script}
use Rattle.script_text.specs.Sum.{IsSum, sum_text, sum_script}
use Rattle.script_text.proofs.lemmas.ReplayLaws.{replay_accepted, one_replay}
use Rattle.script_text.proofs.lemmas.SumLaws.{sum_accepted}
use Rattle.script_run.specs.Performing.{CommandQueues, Performs, LeadsTo, StopsAt, cause_of, after_line, start_queues}
use Rattle.history_making.specs.Books.{Book}
use Rattle.history_book.specs.Reports.{report_text}
use Rattle.history_book.specs.ReportTexts.{IsReport, report}
use Rattle.history_book.proofs.lemmas.PrintedReports.{report_accepted}
use Rattle.plan_words.specs.declared.plan.Plan.{Plan}
use Rattle.plan_words.specs.Plans.{Fits}
use Rattle.plan_text.specs.Plans.{Spells as PlanSpells, plan_script}
use Rattle.plan_text.proofs.lemmas.PlanLaws.{plan_accepted}
use Rattle.command_texts.specs.Replays.{cluster_of, Stops}
use Rattle.command_texts.specs.Texts.{HasFault, IsAccepted, RunsIt}
use Rattle.command_texts.specs.declared.words.Command.{Command}
use Rattle.command_texts.specs.declared.words.Command.TheVariants.{Replay, Check, Sum}
use Rattle.command_texts.specs.declared.refusal.Refusal.TheVariants.{NoMemory, BadScript, ClockFull}
use Rattle.line_forms.proofs.lemmas.Texts.{no_fault}

-- ---- one command

-- a command is refused for want of memory alone that runs nothing and finds no fault of the input
accepts : (command : Command) (input : List ℕ) → (RunsIt command input → ⊥) → ((fault : ScriptFault) → HasFault command input fault → ⊥) → IsAccepted command input
accepts command input alone faultless NoMemory h = refl
accepts command input alone faultless (BadScript fault) h = absurd (faultless fault h)
accepts command input alone faultless (ClockFull drawn) h = absurd (alone h.0)

-- ---- no fault

module _ (s : Setting) (c : Numbers) where
  -- the line after these took place, so nothing was against it
  took_place : (d e last : CommandQueues) (place : ℕ) (front : List ReplayLine) (line : ReplayLine) (rest : List ReplayLine) → LeadsTo s c d place front e → LeadsTo s c d place (front ++ line ∷ rest) last → cause_of s c e line ≡ None
  took_place d e last place [] line rest h whole = subst (λ (z : CommandQueues). cause_of s c z line ≡ None) (sym h) whole.0
  took_place d e last place (x ∷ front) line rest h whole = took_place (after_line s c d place x) e last (place + 1) front line rest h.1 whole.1

  -- a run that goes to its end stops at no line
  no_stop : (lines : List ReplayLine) (done : ℕ) (cause : Cause) (last : CommandQueues) → Performs s c lines last → StopsAt s c lines done cause → ⊥
  no_stop lines done cause last run stop =
      let none : cause_of s c stop.queues stop.line ≡ None = took_place (start_queues s) stop.queues last 1 stop.front stop.line stop.rest stop.performed (subst (λ (ls : List ReplayLine). Performs s c ls last) stop.parts run) in
      let here : cause_of s c stop.queues stop.line ≡ Some cause = stop.stopped in
      cc

module _ (input : List ℕ) (c : Numbers) (liars : Liars) (lines : List ReplayLine) (queues : CommandQueues) (good : IsReplay c liars lines) (spelled : Spells input c liars lines) (run : Performs (cluster_of c liars) c lines queues) where
  runs_to_its_end : (fault : ScriptFault) → Stops input fault → ⊥
  runs_to_its_end fault stop =
      let same = one_replay input c stop.config liars stop.liars lines stop.lines good stop.script.replay spelled stop.script.spelled in
      let run_of_these : Performs (cluster_of stop.config stop.liars) stop.config stop.lines queues =
      subst (λ (k : Numbers). Performs (cluster_of k stop.liars) k stop.lines queues) same.0
      (subst (λ (l : Liars). Performs (cluster_of c l) c stop.lines queues) same.1
      (subst (λ (ls : List ReplayLine). Performs (cluster_of c liars) c ls queues) same.2 run)) in
      no_stop (cluster_of stop.config stop.liars) stop.config stop.lines stop.done fault.cause queues run_of_these stop.stopped

  replay_faultless : (fault : ScriptFault) → HasFault Replay input fault → ⊥
  replay_faultless fault h =
      elim h [
        | inl bad ↦ no_fault replay_script input fault.line fault.cause (replay_accepted input c liars lines good spelled) bad
        | inr stop ↦ runs_to_its_end fault stop
      ]

  pub replay_is_accepted : IsAccepted Replay input
  replay_is_accepted = accepts Replay input (λ no. no) replay_faultless

pub sum_is_accepted : (c : Numbers) (v : List ℕ) → IsSum c v → IsAccepted Sum (sum_text c v)
sum_is_accepted c v good = accepts Sum (sum_text c v) (λ no. no) (λ fault h. no_fault sum_script (sum_text c v) fault.line fault.cause (sum_accepted c v good) h)

pub report_is_accepted : (book : Book) → IsReport book → IsAccepted Check (report_text book)
report_is_accepted book good = accepts Check (report_text book) (λ no. no) (λ fault h. no_fault report (report_text book) fault.line fault.cause (report_accepted book good) h)

pub plan_is_no_bad_script : (input : List ℕ) (plan : Plan) (fault : ScriptFault) → Fits plan → PlanSpells input plan → IsFault plan_script input fault.line fault.cause → ⊥
plan_is_no_bad_script input plan fault fits spelled bad = no_fault plan_script input fault.line fault.cause (plan_accepted input plan fits spelled) bad
