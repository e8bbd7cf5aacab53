-- What is told of the run of a plan holds of it.
use Rattle.std.proofs.Common.{◌≡◌, ℕ, ◌+◌, List, [], ◌∷◌, ◌++◌, map, sym, ◌∙◌, ap, subst}
use Rattle.std.specs.Prelude.{codes}
use Rattle.std.specs.List.{AllByRecursion}
use Rattle.text_lines.specs.Lines.{text_of_lines}
use Rattle.quorum_rules.specs.Limits.{Numbers, IsOfScripts}
use Rattle.wire_forms.specs.Liars.{Liars, AreLiars}
use Rattle.protocol.specs.Setting.{Setting}
use Rattle.protocol.specs.World.{World}
use Rattle.protocol.specs.Lines.{Line, IsRun}
use Rattle.world_state.specs.Worlds.{WorldView, world_in}
use Rattle.journals.specs.declared.whole.Journals.{Journals}
use Rattle.journals.specs.Journals.{setting_for, IsMerge}
use Rattle.journals.specs.Merged.{OfMerged, AreRun}
use Rattle.merge_trace.specs.Traces.{placed}
use Rattle.plan_words.specs.declared.plan.Plan.{Plan}
use Rattle.plan_followed.specs.Asked.{conduct_of}
use Rattle.plan_followed.specs.Laws.{OfPlans, HasLiars, PlansRun}
use Rattle.plan_followed.specs.Followed.{AreOfPlan}
use Rattle.event_lines.specs.Lines.{IsEventLine}
use Rattle.event_lines.specs.declared.line.ReplayLine.TheVariants.{Plain}
use Rattle.script_text.specs.Replays.{AreAscendingLiars, replay_text}
use Rattle.script_run.specs.Histories.{FitsHistory}
use Rattle.journal_records.specs.Shown.{HistoriesAreComplete}
use Rattle.journal_records.specs.Told.{IsTold, LinesAreTold}
use Rattle.command_texts.specs.ScriptLiars.{HasScriptLiars}
use Rattle.command_texts.specs.Traces.{TracesPlan}
use Rattle.command_texts.specs.Runs.{Reports, ReportsWorld, AreOfPlanRun, IsPlanRun, RunsPlan}

-- ---- journals of a run of a plan can be merged

pub plan_liars : OfPlans HasLiars → (plan : Plan) (j : Journals) → AreOfPlanRun plan j → AreLiars j.config j.liars
plan_liars law plan j of =
    let h = of.1 in
    subst (λ (l : Liars). AreLiars j.config l) (sym h.follows.are_for.liars) (subst (λ (c : Numbers). AreLiars c plan.liars) (sym h.follows.are_for.config) (law plan h.fits))

-- and their lines lead to the last world of each run that they are
pub leads_to : PlansRun → OfMerged AreRun → (plan : Plan) (j : Journals) (drawn : ℕ) → AreOfPlan plan j drawn → (lines : List Line) (w : World) → IsMerge j (placed 0 lines)
    → ((last : World) → IsRun (setting_for j) (placed 0 lines) last → w ≡ last) → IsRun (setting_for j) (placed 0 lines) w
leads_to runs law plan j drawn of lines w merged leads =
    let run = law (conduct_of plan.rules) j (placed 0 lines) (runs plan j drawn of) merged in
    subst (λ (v : World). IsRun (setting_for j) (placed 0 lines) v) (sym (leads run.0 run.1)) run.1

-- ---- the run, its report

abbrev pub runs_plan : HistoriesAreComplete → (plan : Plan) (j : Journals) → AreOfPlanRun plan j → (lines : List Line) (v : WorldView) → IsPlanRun plan j lines v → FitsHistory (world_in v)
    → (text : List ℕ) → ReportsWorld v text → RunsPlan plan j text
runs_plan complete plan j of lines v is fits text reports =
    let here : Reports (setting_for j) (world_in v) text = subst (λ (s : Setting). Reports s (world_in v) text) is.setting reports in
    record {
      made = record { of_plan = of; lines = lines; merged = is.merged; world = world_in v; run = is.run; fits = fits };
      reports = here;
      complete = complete plan j of.0 (placed 0 lines) (world_in v) here.of.history of.1 is.merged is.run (here.of.tells.history.sorted, here.of.tells.history.entries);
    }

-- ---- the trace

-- what holds of each line at its place holds of each line
pub unplaced : (P : Line → Type 0) (n : ℕ) (lines : List Line) → AllByRecursion (λ l. P l.1) (placed n lines) → AllByRecursion P lines
unplaced P n [] h = tt
unplaced P n (l ∷ lines) h = (h.0, unplaced P (n + 1) lines h.1)

pub told_lines : LinesAreTold → (plan : Plan) (j : Journals) → IsOfScripts plan.config → AreOfPlanRun plan j → (lines : List Line) → IsMerge j (placed 0 lines) → AllByRecursion (IsTold plan.config) lines
told_lines law plan j known of lines merged = unplaced (IsTold plan.config) 0 lines (law plan j of.0 (placed 0 lines) known of.1 merged)

-- the liars and the lines of the journals are those of the plan
pub journals_declare : OfPlans HasScriptLiars → (plan : Plan) (j : Journals) → AreOfPlanRun plan j → AreAscendingLiars j.config j.liars
journals_declare law plan j of =
    let h = of.1 in
    subst (λ (l : Liars). AreAscendingLiars j.config l) (sym h.follows.are_for.liars) (subst (λ (c : Numbers). AreAscendingLiars c plan.liars) (sym h.follows.are_for.config) (law plan h.fits))

pub journals_told : (plan : Plan) (j : Journals) → AreOfPlanRun plan j → (lines : List Line) → AllByRecursion (IsTold plan.config) lines → AllByRecursion (IsTold j.config) lines
journals_told plan j of lines h = subst (λ (c : Numbers). AllByRecursion (IsTold c) lines) (sym of.1.follows.are_for.config) h

pub traces_plan : (plan : Plan) (j : Journals) → AreOfPlanRun plan j → (report text script : List ℕ) → (run : RunsPlan plan j report)
    → script ≡ replay_text j.config j.liars (map Plain run.made.lines) → AllByRecursion (IsEventLine j.config) (map Plain run.made.lines)
    → text ≡ script ++ text_of_lines (codes "report" ∷ []) ++ report → TracesPlan plan j text
traces_plan plan j of report text script run spelled events shown =
    let config = of.1.follows.are_for.config in
    let liars = of.1.follows.are_for.liars in
    record {
      report = report;
      run = run;
      events = subst (λ (c : Numbers). AllByRecursion (IsEventLine c) (map Plain run.made.lines)) config events;
      shown =
          shown
          ∙ ap (λ (t : List ℕ). t ++ text_of_lines (codes "report" ∷ []) ++ report)
          (spelled ∙ ap (λ (c : Numbers). replay_text c j.liars (map Plain run.made.lines)) config ∙ ap (λ (l : Liars). replay_text plan.config l (map Plain run.made.lines)) liars);
    }
