-- Which answers are only counted: those that the phase counts and that don't end it.
use Rattle.std.proofs.Common.{◌≡◌, ℕ, ◌-◌, Bool, true, false, cond, not, ◌&&◌, Option, refl, sym, ◌∙◌, ltb}
use Rattle.std.specs.declared.option.Option.TheVariants.{None, Some}
use Rattle.protocol.specs.Messages.{Reply, Tag}
use Rattle.protocol.specs.Setting.{Setting}
use Rattle.protocol.specs.Operations.{Decision, answered, decide}
use Rattle.protocol.specs.Operations.Decision.{GoesOn, Ends}
use Rattle.protocol.specs.Seen.{SeenTask, task_at, answers_of, seen_counted, is_counted, by_decision, counts_of, ends_phase, hears}
use Rattle.protocol.specs.Seen.Hearing.{Ignored, Counted}
use Rattle.client_core.specs.Clients.{is_only_counted}

module _ (s : Setting) (client node : ℕ) (tag : Tag) (reply : Reply) where
  pub only_counted : (task : Option SeenTask) → is_only_counted (hears s client task node tag reply) ≡ (counts_of s task node tag reply && not (ends_phase s task node tag reply))
  only_counted None = refl
  only_counted (Some t) =
      let next = seen_counted t node reply in
      at (is_counted s t node tag reply) (ltb (answered s (λ i. answers_of next i)) (s.n - s.t)) next (decide s client (task_at 0 next) next.stage)
    where
      at : (b f : Bool) (u : SeenTask) (d : Decision) → is_only_counted (cond b (cond f (Counted u) (by_decision s u d)) Ignored) ≡ (b && not (b && not f))
      at false f u d = refl
      at true true u d = refl
      at true false u (GoesOn stage) = refl
      at true false u (Ends outcome) = refl

  pub goes_on : (task : Option SeenTask) → is_only_counted (hears s client task node tag reply) ≡ true → ends_phase s task node tag reply ≡ false
  goes_on task h = second (counts_of s task node tag reply) (ends_phase s task node tag reply) (sym (only_counted task) ∙ h)
    where
      second : (a b : Bool) → a && not b ≡ true → b ≡ false
      second true true e = absurd (cc)
      second true false e = refl
      second false b e = absurd (cc)
