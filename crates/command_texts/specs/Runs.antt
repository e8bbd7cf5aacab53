-- What is told of the run of a plan.
use Rattle.std.specs.Prelude.{◌≡◌, ℕ, List}
use Rattle.protocol.specs.Setting.{Setting}
use Rattle.protocol.specs.World.{World}
use Rattle.protocol.specs.Lines.{Line, IsRun}
use Rattle.world_state.specs.Worlds.{WorldView, setting_in, world_in}
use Rattle.history_making.specs.Books.{Book}
use Rattle.history_book.specs.Reports.{report_text}
use Rattle.script_run.specs.Histories.{FitsHistory, TellsHistory}
use Rattle.journals.specs.declared.whole.Journals.{Journals}
use Rattle.journals.specs.Journals.{setting_for, IsMerge}
use Rattle.merge_trace.specs.Traces.{placed}
use Rattle.plan_words.specs.declared.plan.Plan.{Plan}
use Rattle.plan_followed.specs.Followed.{AreOfPlan}
use Rattle.journal_records.specs.Shown.{IsComplete}

-- the text is the report of the world's history
pub record Reports (s : Setting) (w : World) (text : List ℕ) : Type 0 where
  pub book : Book
  pub of : TellsHistory s w book
  pub shown : text ≡ report_text book

abbrev pub ReportsWorld : WorldView → List ℕ → Type 0
ReportsWorld v text = Reports (setting_in v) (world_in v) text

-- the journals are those of a run of the plan
abbrev pub AreOfPlanRun : Plan → Journals → Type 0
AreOfPlanRun plan j = (drawn : ℕ) × AreOfPlan plan j drawn

-- the lines are those that the journals tell, and a run to this world
pub record IsPlanRun (plan : Plan) (j : Journals) (lines : List Line) (v : WorldView) : Type 0 where
  pub merged : IsMerge j (placed 0 lines)
  pub setting : setting_in v ≡ setting_for j
  pub run : IsRun (setting_for j) (placed 0 lines) (world_in v)

-- the run of the plan that the journals tell: their lines, and the world that these lead to. Its places are numbers of 64 bits
pub record PlanRun (plan : Plan) (j : Journals) : Type 0 where
  pub of_plan : AreOfPlanRun plan j
  pub lines : List Line
  pub merged : IsMerge j (placed 0 lines)
  pub world : World
  pub run : IsRun (setting_for j) (placed 0 lines) world
  pub fits : FitsHistory world

-- the book tells the history of the run of the plan that the journals tell
pub record TellsPlan (plan : Plan) (j : Journals) (book : Book) : Type 0 where
  pub made : PlanRun plan j
  pub of : TellsHistory (setting_for j) made.world book

-- the text is the report of the run of the plan that the journals tell, which has each operation of each client that neither lies
-- nor crashed in it
pub record RunsPlan (plan : Plan) (j : Journals) (text : List ℕ) : Type 0 where
  pub made : PlanRun plan j
  pub reports : Reports (setting_for j) made.world text
  pub complete : IsComplete plan j made.world reports.of.history
