-- An operation goes on phase by phase.
use Rattle.std.proofs.Common.{◌≡◌, ℕ, Bool, false, List, [], ◌∷◌, Option, refl}
use Rattle.protocol.specs.Messages.{Reply}
use Rattle.protocol.specs.Setting.{Setting}
use Rattle.protocol.specs.Operations.{Work, Outcome}
use Rattle.protocol.specs.Seen.{SeenTask}
use Rattle.block_phases.specs.Phases.{Keeps}
use Rattle.block_phases.specs.Executions.{StampedValue, Phase, LeadTo, IsRunning, IsCompleted, IsGivenUp}
use Rattle.block_phases.specs.Phases.{Progress, after_phase, AreAnswers, IsAfterPhase}
use Rattle.block_phases.specs.Phases.Progress.{UnderWay, Over}
use Rattle.block_phases.specs.Laws.{OperationsBegin, ContinuesAs, OperationsGoOn, OperationsAreCutOff, OutcomesKnowNoLiars, CutOffsKnowNoLiars}

module _ (s : Setting) where
  pub operations_begin : OperationsBegin s
  operations_begin away block client op work old = record { op = op; phases = []; led = (refl, λ i below. refl) }

  pub operations_go_on : OperationsGoOn s
  operations_go_on away block client work task replies old now then goes answers there after = at (after_phase s client task replies) refl
    where
      at : (p : Progress) → after_phase s client task replies ≡ p → ContinuesAs s away block client work p old then
      at (UnderWay next) e = record {
        op = goes.op;
        phases = record { task = task; now = now; replies = replies } ∷ goes.phases;
        led = (goes.led, answers, there, after, e);
      }
      at (Over outcome) e = record { task = task; now = now; goes = goes; replies = replies; answers = answers; there = there; after = after; over = e }

  pub operations_cut_off : OperationsAreCutOff s
  operations_cut_off away block client work task old now then goes cut = record { task = task; asked = refl; now = now; goes = goes; cut = cut }

-- ---- who lies

module _ (s : Setting) (lying_node lying_client : ℕ → Bool) where
  abbrev other : Setting
  other = record s { lying_node = lying_node; lying_client = lying_client }

  answers_same : (task : SeenTask) (now : Keeps) (replies : List (Option Reply)) → AreAnswers s task now replies → AreAnswers other task now replies
  answers_same task now replies a = record { count = a.count; formed = a.formed; answers = a.answers }

  after_same : (task : SeenTask) (now : Keeps) (replies : List (Option Reply)) (then : Keeps) → IsAfterPhase s task now replies then
      → IsAfterPhase other task now replies then
  after_same task now replies then a = record { answered = a.answered; silent = a.silent }

  module _ (away : ℕ → Bool) (block client : ℕ) (work : Work) where
    led_same : (op : ℕ) (old : Keeps) (phases : List Phase) (task : SeenTask) (now : Keeps)
        → LeadTo s away block client work op old phases task now → LeadTo other away block client work op old phases task now
    led_same op old [] task now h = (h.0, h.1)
    led_same op old (p ∷ phases) task now h =
        (led_same op old phases p.task p.now h.0, answers_same p.task p.now p.replies h.1, h.2, after_same p.task p.now p.replies now h.3, h.4)

    goes_same : (task : SeenTask) (old now : Keeps) → IsRunning s away block client work task old now → IsRunning other away block client work task old now
    goes_same task old now g = record { op = g.op; phases = g.phases; led = led_same g.op old g.phases task now g.led }

    given_up_same : (stored : Option StampedValue) (old new : Keeps) → IsGivenUp s away block client work stored old new
        → IsGivenUp other away block client work stored old new
    given_up_same stored old new d = record { task = d.task; asked = d.asked; now = d.now; goes = goes_same d.task old d.now d.goes; cut = d.cut }

    comes_same : (outcome : Outcome) (old new : Keeps) → IsCompleted s away block client work outcome old new
        → IsCompleted other away block client work outcome old new
    comes_same outcome old new d = record {
      task = d.task;
      now = d.now;
      goes = goes_same d.task old d.now d.goes;
      replies = d.replies;
      answers = answers_same d.task d.now d.replies d.answers;
      there = d.there;
      after = after_same d.task d.now d.replies new d.after;
      over = d.over;
    }

pub outcomes_know_no_liars : (s : Setting) → OutcomesKnowNoLiars s
outcomes_know_no_liars s lying_node lying_client away block client work outcome old new d =
    comes_same s lying_node lying_client away block client work outcome old new d

pub cut_offs_know_no_liars : (s : Setting) → CutOffsKnowNoLiars s
cut_offs_know_no_liars s lying_node lying_client away block client work stored old new d =
    given_up_same s lying_node lying_client away block client work stored old new d

-- ---- where fewer are away

module _ (s : Setting) (away lost : ℕ → Bool) (fewer : (i : ℕ) → away i ≡ false → lost i ≡ false) (block client : ℕ) (work : Work) where
  led_fewer : (op : ℕ) (old : Keeps) (phases : List Phase) (task : SeenTask) (now : Keeps)
      → LeadTo s away block client work op old phases task now → LeadTo s lost block client work op old phases task now
  led_fewer op old [] task now h = (h.0, h.1)
  led_fewer op old (p ∷ phases) task now h =
      (led_fewer op old phases p.task p.now h.0, h.1, λ i given e. fewer i (h.2 i given e), h.3, h.4)

  goes_fewer : (task : SeenTask) (old now : Keeps) → IsRunning s away block client work task old now → IsRunning s lost block client work task old now
  goes_fewer task old now g = record { op = g.op; phases = g.phases; led = led_fewer g.op old g.phases task now g.led }

  pub given_up_fewer : (stored : Option StampedValue) (old new : Keeps) → IsGivenUp s away block client work stored old new
      → IsGivenUp s lost block client work stored old new
  given_up_fewer stored old new d = record { task = d.task; asked = d.asked; now = d.now; goes = goes_fewer d.task old d.now d.goes; cut = d.cut }

  pub comes_fewer : (outcome : Outcome) (old new : Keeps) → IsCompleted s away block client work outcome old new
      → IsCompleted s lost block client work outcome old new
  comes_fewer outcome old new d = record {
    task = d.task;
    now = d.now;
    goes = goes_fewer d.task old d.now d.goes;
    replies = d.replies;
    answers = d.answers;
    there = λ i given e. fewer i (d.there i given e);
    after = d.after;
    over = d.over;
  }
