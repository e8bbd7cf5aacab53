-- An answer to the client does what its reply does to the operation under way.
use Rattle.std.proofs.Common.{◌≡◌, ◌⊎◌, true, false, cond, Option, refl, ◌∙◌, ap, inl, inr, eqb}
use Rattle.std.specs.declared.option.Option.TheVariants.{None, Some}
use Rattle.std.proofs.lemmas.Bool.Decides.{eqb_tells}
use Rattle.wire_forms.specs.declared.message.Message.{Message}
use Rattle.wire_forms.specs.declared.message.Body.TheVariants.{Answer as Answers}
use Rattle.protocol.specs.Messages.{Reply}
use Rattle.protocol.specs.Instance.{setting}
use Rattle.protocol.specs.Seen.{SeenTask, hearing, hears as hears_answer}
use Rattle.protocol.specs.Seen.Hearing.{Ignored}
use Rattle.operation_core.specs.Clients.{ClientView, told, hears}

module _ (c : ClientView) (m : Message) (reply : Reply) (own : m.client ≡ c.id) (answer : m.body ≡ Answers reply) where
  pub told_is : (t : SeenTask) → hears c (Some t) m ≡ hearing (setting c.config) c.id t m.node m.tag reply
  told_is t = ap (told c t m) answer ∙ mine (eqb_tells m.client c.id)
    where
      mine : ((eqb m.client c.id ≡ true) × (m.client ≡ c.id)) ⊎ ((eqb m.client c.id ≡ false) × (m.client ≡ c.id → ⊥))
          → cond (eqb m.client c.id) (hearing (setting c.config) c.id t m.node m.tag reply) Ignored ≡ hearing (setting c.config) c.id t m.node m.tag reply
      mine (inl h) = rw h.0 refl
      mine (inr h) = absurd (h.1 own)

  pub answer_is : (o : Option SeenTask) → hears c o m ≡ hears_answer (setting c.config) c.id o m.node m.tag reply
  answer_is None = refl
  answer_is (Some t) = told_is t
