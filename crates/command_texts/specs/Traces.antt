-- What is told of a run by its trace.
use Rattle.std.specs.Prelude.{◌≡◌, ℕ, List, [], ◌∷◌, ◌++◌, map, codes}
use Rattle.std.specs.List.{AllByRecursion}
use Rattle.text_lines.specs.Lines.{text_of_lines}
use Rattle.event_lines.specs.Lines.{IsEventLine}
use Rattle.event_lines.specs.declared.line.ReplayLine.TheVariants.{Plain}
use Rattle.script_text.specs.Replays.{replay_text}
use Rattle.journals.specs.declared.whole.Journals.{Journals}
use Rattle.plan_words.specs.declared.plan.Plan.{Plan}
use Rattle.command_texts.specs.Runs.{RunsPlan}

-- the text is the run of the plan that the journals tell, as a script of its lines, each of which is an event line of one, then the
-- line `report`, and then the run's report
pub record TracesPlan (plan : Plan) (j : Journals) (text : List ℕ) : Type 0 where
  pub report : List ℕ
  pub run : RunsPlan plan j report
  pub events : AllByRecursion (IsEventLine plan.config) (map Plain run.made.lines)
  pub shown : text ≡ replay_text plan.config plan.liars (map Plain run.made.lines) ++ text_of_lines (codes "report" ∷ []) ++ report
