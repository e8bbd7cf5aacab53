-- What the run of a plan shows.
use Rattle.std.proofs.Common.{◌≡◌, ℕ, List, refl, subst}
use Rattle.std.specs.Prelude.{Result, Ok, Err, IfErr}
use Rattle.std.specs.Result.{IsErrAnd}
use Rattle.line_forms.specs.Texts.{IsFaultless}
use Rattle.event_clock.specs.Passes.{HasFullPass, Tally}
use Rattle.plan_words.specs.declared.plan.Plan.{Plan}
use Rattle.plan_words.specs.Plans.{Fits}
use Rattle.plan_text.specs.Plans.{Spells, plan_script}
use Rattle.event_clock.specs.declared.refusal.RunRefusal.{RunRefusal}
use Rattle.event_clock.specs.declared.refusal.RunRefusal.TheVariants as runs
use Rattle.command_texts.specs.declared.words.Serving.{Serving}
use Rattle.command_texts.specs.declared.words.Command.TheVariants.{Run, Trace, Soak}
use Rattle.command_texts.specs.Statuses.{refusal_of_run}
use Rattle.command_texts.specs.PlanRuns.{IsPlan}
use Rattle.command_texts.specs.declared.refusal.Refusal.{Refusal}
use Rattle.command_texts.specs.Texts.{Refuses}

-- the plan that was read is the input's
abbrev pub is_plan : (input text : List ℕ) (plan : Plan) → text ≡ input → Fits plan → Spells text plan → IsFaultless plan_script text → IsPlan input
is_plan input text plan e fits spelled faultless = record {
  plan = plan;
  fits = fits;
  spelled = subst (λ (t : List ℕ). Spells t plan) e spelled;
  faultless = subst (λ (t : List ℕ). IsFaultless plan_script t) e faultless;
}

pub run_refuses : (serving : Serving) (input : List ℕ) → IsPlan input → (r : RunRefusal) → ((drawn : Tally) → r ≡ runs.ClockFull drawn → HasFullPass drawn) → Refuses (Run serving) input (refusal_of_run r)
run_refuses serving input is runs.NoMemory full = tt
run_refuses serving input is (runs.ClockFull drawn) full = (is, full drawn refl)

pub trace_refuses : (serving : Serving) (input : List ℕ) → IsPlan input → (r : RunRefusal) → ((drawn : Tally) → r ≡ runs.ClockFull drawn → HasFullPass drawn) → Refuses (Trace serving) input (refusal_of_run r)
trace_refuses serving input is runs.NoMemory full = tt
trace_refuses serving input is (runs.ClockFull drawn) full = (is, full drawn refl)

pub soak_refuses : (number : ℕ) (input : List ℕ) (r : RunRefusal) → ((drawn : Tally) → r ≡ runs.ClockFull drawn → HasFullPass drawn) → Refuses (Soak number) input (refusal_of_run r)
soak_refuses number input runs.NoMemory full = tt
soak_refuses number input (runs.ClockFull drawn) full = (tt, full drawn refl)

-- a refusal that `?` gives on
pub given_on : {X : Type 0} (P : Refusal → Type 0) (result : Result X Refusal) (r : Refusal) → IsErrAnd result (λ e. e ≡ r) → P r → IfErr result P
given_on P (Ok x) r is h = tt
given_on P (Err e) r is h = rw is h
