-- The history of a run whose records were made out of its journals.
use Rattle.std.proofs.Common.{◌≡◌, ℕ, ◌+◌, ◌^◌, ◌≤◌, List, [], ◌∷◌, map, Option, refl, sym, ◌∙◌, ap, subst, arith}
use Rattle.stamp_order.specs.declared.Stamp.{Stamp}
use Rattle.wire_forms.specs.Liars.{has_number}
use Rattle.wire_forms.specs.Firsts.{first_of}
use Rattle.protocol.specs.Setting.{Setting}
use Rattle.protocol.specs.World.{World, Record}
use Rattle.protocol.specs.Lines.{Line, IsRun}
use Rattle.protocol.proofs.lemmas.Firsts.{first_stamp_is}
use Rattle.history_making.specs.Books.{Book}
use Rattle.history_book.specs.Reports.{report_text}
use Rattle.script_run.specs.Histories.{FitsHistory, AreOfRun, TellsHistory}
use Rattle.journals.specs.Steps.{Step}
use Rattle.journals.specs.Merging.{Merged, next_world, line_of}
use Rattle.journals.specs.declared.whole.Journals.{Journals}
use Rattle.journals.specs.Journals.{setting_for, IsMerge, AreOfRun as AreOfRunInThreads}
use Rattle.merge_trace.specs.Traces.{placed}
use Rattle.journal_records.specs.Lines.{HasRun, LinesAreThere, LastPlaceIsCount}
use Rattle.journal_records.specs.Records.{AreAllRecords, WorldsHaveAllRecords, RecordsAreThose}
use Rattle.journal_records.specs.Few.{RecordsFitHistory}
use Rattle.plan_words.specs.declared.plan.Plan.{Plan}
use Rattle.plan_followed.specs.Asked.{conduct_of}
use Rattle.plan_followed.specs.Laws.{PlansRun}
use Rattle.plan_followed.specs.Followed.{AreOfPlan}
use Rattle.journal_records.specs.Shown.{HistoriesAreComplete}
use Rattle.command_texts.specs.Runs.{PlanRun, TellsPlan, RunsPlan}

abbrev lines_in : List (ℕ × Line) → List Line
lines_in lines = map (λ p. p.1) lines

-- merged lines have the places after the first one
merged_placed : (s : Setting) (w : Option World) (place : ℕ) (es : List Step) (lines : List (ℕ × Line)) → Merged s w place es lines → placed place (lines_in lines) ≡ lines
merged_placed s w place [] lines none = ap (λ (ls : List (ℕ × Line)). placed place (lines_in ls)) none ∙ sym none
merged_placed s w place (e ∷ es) lines h =
    let rest = merged_placed s (next_world s w (place + 1) (line_of s h.0 e)) (place + 1) es h.1 h.4 in
    ap (λ (ls : List (ℕ × Line)). placed place (lines_in ls)) h.3 ∙ ap (λ (ls : List (ℕ × Line)). (place + 1, line_of s h.0 e) ∷ ls) rest ∙ sym h.3

-- a plan's run fits a history
pub fits_history : PlansRun → LastPlaceIsCount → WorldsHaveAllRecords → RecordsFitHistory → (plan : Plan) (j : Journals) (drawn : ℕ) → AreOfPlan plan j drawn → drawn ≤ 2 ^ 56
    → (lines : List (ℕ × Line)) (w : World) → IsMerge j lines → IsRun (setting_for j) lines w → FitsHistory w
fits_history runs counted had rare plan j drawn of low lines w merge run =
    let place = counted j drawn lines w of.numbers merge run in
    let few = rare plan j drawn w.records of low (had (conduct_of plan.rules) j lines w (runs plan j drawn of) of.follows.are_for.ascend merge run) in
    record { places = omega (arith, place, low); records = few.0; rounds = few.1 }

module _ (runs : PlansRun) (there : LinesAreThere) (plan : Plan) (j : Journals) (drawn : ℕ) (of : AreOfPlan plan j drawn) where
  abbrev in_threads : AreOfRunInThreads (conduct_of plan.rules) j
  in_threads = runs plan j drawn of

  abbrev has_run : HasRun j
  has_run = there (conduct_of plan.rules) j in_threads

  same : placed 0 (lines_in has_run.lines) ≡ has_run.lines
  same = let m = has_run.merge in merged_placed (setting_for j) _ 0 _ has_run.lines m.2

  abbrev made_run : FitsHistory has_run.last → PlanRun plan j
  made_run fits = record {
    of_plan = (drawn, of);
    lines = lines_in has_run.lines;
    merged = subst (IsMerge j) (sym same) has_run.merge;
    world = has_run.last;
    run = subst (λ (ls : List (ℕ × Line)). IsRun (setting_for j) ls has_run.last) (sym same) has_run.run;
    fits = fits;
  }

  abbrev pub last_world : World
  last_world = has_run.last

  pub tells_plan : FitsHistory last_world → (book : Book) → TellsHistory (setting_for j) last_world book → TellsPlan plan j book
  tells_plan fits book told = record { made = made_run fits; of = told }

  module _ (counted : LastPlaceIsCount) (had : WorldsHaveAllRecords) (those : RecordsAreThose) (rare : RecordsFitHistory) (low : drawn ≤ 2 ^ 56) (records : List Record) (all : AreAllRecords j records) (first : Stamp) (begins : first ≡ (first_of j.config).stamp) where
    pub are_of_run : AreOfRun (setting_for j) last_world records first
    are_of_run = record {
      cluster = record { config = j.config; lying_node = has_number j.liars.nodes; lying_client = has_number j.liars.clients; cluster = in_threads.cluster; is = refl };
      lines = has_run.lines;
      run = has_run.run;
      fits = fits_history runs counted had rare plan j drawn of low has_run.lines has_run.last has_run.merge has_run.run;
      has = those (conduct_of plan.rules) j has_run.lines has_run.last records in_threads of.follows.are_for.ascend has_run.merge has_run.run all;
      begins = sym (begins ∙ first_stamp_is j.config in_threads.cluster.config);
    }

-- and its report
pub runs_told : HistoriesAreComplete → (plan : Plan) (j : Journals) (book : Book) → TellsPlan plan j book → (text : List ℕ) → text ≡ report_text book → RunsPlan plan j text
runs_told complete plan j book told text shown =
    let made = told.made in
    let of = told.of in
    record {
      made = made;
      reports = record { book = book; of = of; shown = shown };
      complete = complete plan j made.of_plan.0 (placed 0 made.lines) made.world of.history made.of_plan.1 made.merged made.run (of.tells.history.sorted, of.tells.history.entries);
    }
