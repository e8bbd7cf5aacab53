-- What is told of a load's run holds of it.
use Rattle.std.proofs.Common.{◌≡◌, ℕ, List, ◌∙◌, subst, arith}
use Rattle.history_making.specs.Books.{Book}
use Rattle.soak_loads.specs.Soaks.{soak_text}
use Rattle.journals.specs.declared.whole.Journals.{Journals}
use Rattle.merge_trace.specs.Traces.{placed}
use Rattle.plan_words.specs.declared.plan.Plan.{Plan}
use Rattle.command_texts.specs.Runs.{TellsPlan}
use Rattle.soak_loads.specs.Loads.{LoadsAreDone, LoadsArePlain}
use Rattle.command_texts.specs.Loads.{load_of, TellsLoad}

pub tells_load : LoadsAreDone → LoadsArePlain → (number : ℕ) (plan : Plan) (j : Journals) → plan ≡ load_of number
    → (book : Book) → TellsPlan plan j book → (text : List ℕ) → text ≡ soak_text number book
    → TellsLoad number j text
tells_load done plain number plan j is book told text shown =
    let here : TellsPlan (load_of number) j book = subst (λ (p : Plan). TellsPlan p j book) is told in
    let made = here.made in
    let of = here.of in
    let counts = done number 4 200 (omega arith) j made.of_plan.0 (placed 0 made.lines) made.world of.history book made.of_plan.1 made.merged made.run of.tells in
    record {
      made = made;
      book = book;
      of = of;
      shown = shown;
      done = counts.0;
      spent = counts.1;
      plain = λ apart. shown ∙ plain number 4 200 (omega arith) j made.of_plan.0 (placed 0 made.lines) made.world of.history book made.of_plan.1 made.merged made.run of.tells apart;
    }
