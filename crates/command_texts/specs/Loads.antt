-- What is told of the run of a load.
use Rattle.std.specs.Prelude.{◌≡◌, ℕ, List}
use Rattle.protocol.specs.History.{NoClash}
use Rattle.history_making.specs.Books.{Book}
use Rattle.soak_loads.specs.Soaks.{soak_text}
use Rattle.soak_loads.specs.Plain.{plain_text}
use Rattle.journals.specs.declared.whole.Journals.{Journals}
use Rattle.journals.specs.Journals.{setting_for}
use Rattle.plan_words.specs.declared.plan.Plan.{Plan}
use Rattle.script_run.specs.Histories.{TellsHistory}
use Rattle.command_texts.specs.Runs.{PlanRun}
use Rattle.soak_loads.specs.MadePlans.{plan_of}

-- the load of a number: its plan for 4 clients and 200 operations
abbrev pub load_of : ℕ → Plan
load_of number = plan_of number 4 200

-- the text is the line of the run of the load that the journals tell: all its operations are done, and no write is spent. Where no
-- two strings that were seen clash, it is the line of the load's operations done one after another on plain registers, whatever
-- turns the threads took
pub record TellsLoad (number : ℕ) (j : Journals) (text : List ℕ) : Type 0 where
  pub made : PlanRun (load_of number) j
  pub book : Book
  pub of : TellsHistory (setting_for j) made.world book
  pub shown : text ≡ soak_text number book
  pub done : book.counts.done ≡ 200
  pub spent : book.counts.spent ≡ 0
  pub plain : NoClash (setting_for j) made.world → text ≡ plain_text number (load_of number)
