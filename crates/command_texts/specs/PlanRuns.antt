-- What `run`, `trace` and `soak` write.
use Rattle.std.specs.Prelude.{ℕ, List}
use Rattle.line_forms.specs.Texts.{IsFaultless}
use Rattle.journals.specs.declared.whole.Journals.{Journals}
use Rattle.plan_words.specs.declared.plan.Plan.{Plan}
use Rattle.plan_words.specs.Plans.{Fits}
use Rattle.plan_text.specs.Plans.{Spells, plan_script}
use Rattle.command_texts.specs.Runs.{RunsPlan}
use Rattle.command_texts.specs.Traces.{TracesPlan}
use Rattle.command_texts.specs.Loads.{TellsLoad}

-- the input spells a plan that can be run
pub record IsPlan (input : List ℕ) : Type 0 where
  pub plan : Plan
  pub fits : Fits plan
  pub spelled : Spells input plan
  pub faultless : IsFaultless plan_script input

-- the text is the report of a run of the input's plan
pub record Runs (input text : List ℕ) : Type 0 where
  pub is : IsPlan input
  pub journals : Journals
  pub run : RunsPlan is.plan journals text

-- the text is the trace of a run of the input's plan: its lines as a script, and its report
pub record Traces (input text : List ℕ) : Type 0 where
  pub is : IsPlan input
  pub journals : Journals
  pub trace : TracesPlan is.plan journals text

-- the text is the line of a run of the number's load
abbrev pub Soaks : ℕ → List ℕ → Type 0
Soaks number text = (j : Journals) × TellsLoad number j text
