-- What nodes keep matters to an operation up to their number alone.
use Rattle.std.proofs.Common.{◌≡◌, ◌⊎◌, ℕ, ◌<◌, Bool, List, [], ◌∷◌, Option, sym, ◌∙◌, inl, inr, arith}
use Rattle.std.specs.Prelude.{slice_get}
use Rattle.std.specs.declared.option.Option.TheVariants.{None, Some}
use Rattle.std.proofs.lemmas.Option.{slice_get_within}
use Rattle.protocol.specs.Messages.{Reply}
use Rattle.protocol.specs.Setting.{Setting}
use Rattle.protocol.specs.Operations.{Work, Outcome}
use Rattle.protocol.specs.Seen.{SeenTask}
use Rattle.block_phases.specs.Phases.{Keeps, AreAnswers, HasDone, IsAfterPhase, IsCutOff}
use Rattle.block_phases.specs.Executions.{StampedValue, Phase, LeadTo, IsRunning, IsCompleted, IsGivenUp}

module _ (s : Setting) where
  -- nodes keep the same
  abbrev pub Same : Keeps → Keeps → Type 0
  Same old new = (i : ℕ) → i < s.n → new i ≡ old i

  after_alike : (task : SeenTask) (now : Keeps) (replies : List (Option Reply)) (then new : Keeps) → AreAnswers s task now replies
      → Same then new → IsAfterPhase s task now replies then → IsAfterPhase s task now replies new
  after_alike task now replies then new answers same after = record {
    answered = λ i given e. same i (below i (Some given) e) ∙ after.answered i given e;
    silent = λ i e. elim (after.silent i e) [
      | inl stays ↦ inl (same i (below i None e) ∙ stays)
      | inr done ↦ inr (same i (below i None e) ∙ done)
    ];
  }
    where
      below : (i : ℕ) (given : Option Reply) → slice_get replies i ≡ Some given → i < s.n
      below i given e = let l = slice_get_within replies i given e in let n = answers.count in omega (arith, l, n)

  cut_alike : (task : SeenTask) (now then new : Keeps) → Same then new → IsCutOff s task now then → IsCutOff s task now new
  cut_alike task now then new same cut =
      λ i l. elim (cut i l) [ inl stays ↦ inl (same i l ∙ stays) | inr done ↦ inr (same i l ∙ done) ]

  module _ (away : ℕ → Bool) (block client : ℕ) (work : Work) where
    led_alike : (op : ℕ) (old first : Keeps) (phases : List Phase) (task : SeenTask) (now : Keeps) → Same old first
        → LeadTo s away block client work op old phases task now → LeadTo s away block client work op first phases task now
    led_alike op old first [] task now same led = (led.0, λ i l. led.1 i l ∙ sym (same i l))
    led_alike op old first (p ∷ phases) task now same led =
        (led_alike op old first phases p.task p.now same led.0, led.1, led.2, led.3, led.4)

    running_alike : (task : SeenTask) (old first now : Keeps) → Same old first → IsRunning s away block client work task old now
        → IsRunning s away block client work task first now
    running_alike task old first now same is =
        record { op = is.op; phases = is.phases; led = led_alike is.op old first is.phases task now same is.led }

    pub completed_alike : (outcome : Outcome) (old first then new : Keeps) → Same old first → Same then new
        → IsCompleted s away block client work outcome old then → IsCompleted s away block client work outcome first new
    completed_alike outcome old first then new before behind is = record {
      task = is.task;
      now = is.now;
      goes = running_alike is.task old first is.now before is.goes;
      replies = is.replies;
      answers = is.answers;
      there = is.there;
      after = after_alike is.task is.now is.replies then new is.answers behind is.after;
      over = is.over;
    }

    pub given_up_alike : (stored : Option StampedValue) (old first then new : Keeps) → Same old first → Same then new
        → IsGivenUp s away block client work stored old then → IsGivenUp s away block client work stored first new
    given_up_alike stored old first then new before behind is = record {
      task = is.task;
      asked = is.asked;
      now = is.now;
      goes = running_alike is.task old first is.now before is.goes;
      cut = cut_alike is.task is.now then new behind is.cut;
    }
