-- Answers that a client counts in a phase that goes on.
use Rattle.std.proofs.Common.{◌≡◌, ℕ, ◌-◌, ◌≤◌, Bool, true, false, cond, get_or, Option, refl, sym, ◌∙◌, ap, ltb}
use Rattle.std.specs.declared.option.Option.TheVariants.{Some}
use Rattle.protocol.specs.Messages.{Reply, Tag}
use Rattle.protocol.specs.Setting.{Setting}
use Rattle.protocol.specs.Instance.{setting}
use Rattle.protocol.specs.Operations.{Decision, answered, decide}
use Rattle.protocol.specs.Operations.Decision.{GoesOn, Ends as EndsWith}
use Rattle.protocol.specs.World.{chosen_stamp}
use Rattle.protocol.specs.Seen.{SeenTask, Hearing, hearing, hears as hears_answer, task_at, seen_counted, is_counted, answers_of, by_decision, after_counting, chosen_of}
use Rattle.protocol.specs.Seen.Hearing.{Ignored, Counted, Begins, Ended}
use Rattle.operation_core.specs.Clients.{ClientView, with_task}
use Rattle.client_core.specs.Clients.{goes_to, is_only_counted}
use Rattle.world_state.specs.declared.client_slot.ClientSlot.{ClientSlot}
use Rattle.world_state.specs.declared.state.State.TheInside.{Inside}
use Rattle.world_state.specs.contracts.state.State.{the_view}
use Rattle.world_state.specs.Slots.{IsWorld}
use Rattle.world_state.specs.Changes.{client_in}
use Rattle.world_state.specs.AnswerEffects.{answer_does}
use Rattle.world_state.proofs.ChangedClients.{slot-is}

-- it leaves an operation that goes on
pub counted : (h : Hearing) → is_only_counted h ≡ true → (t : SeenTask) × (h ≡ Counted t)
counted Ignored e = absurd (cc)
counted (Counted t) e = (t, refl)
counted (Begins t) e = absurd (cc)
counted (Ended outcome) e = absurd (cc)

-- and the stamp that the operation has chosen
module _ (s : Setting) (k : ℕ) (t u : SeenTask) (node : ℕ) (tag : Tag) (reply : Reply) where
  decided : (d : Decision) → by_decision s (seen_counted t node reply) d ≡ Counted u → chosen_of (Some u) ≡ chosen_of (Some t)
  decided (GoesOn stage) e = absurd (cc)
  decided (EndsWith outcome) e = absurd (cc)

  pub same-chosen : hearing s k t node tag reply ≡ Counted u → chosen_of (Some u) ≡ chosen_of (Some t)
  same-chosen e = at (is_counted s t node tag reply) e
    where
      after : (b : Bool) → cond b (Counted (seen_counted t node reply)) (by_decision s (seen_counted t node reply) (decide s k (task_at 0 (seen_counted t node reply)) t.stage)) ≡ Counted u → chosen_of (Some u) ≡ chosen_of (Some t)
      after true f = let q : u ≡ seen_counted t node reply = cc in ap (λ (x : SeenTask). chosen_of (Some x)) q
      after false f = decided (decide s k (task_at 0 (seen_counted t node reply)) t.stage) f

      at : (b : Bool) → cond b (after_counting s k (seen_counted t node reply)) Ignored ≡ Counted u → chosen_of (Some u) ≡ chosen_of (Some t)
      at true f = after (ltb (answered s (λ i. answers_of (seen_counted t node reply) i)) (s.n - s.t)) f
      at false f = absurd (cc)

module _ (w : Inside) (good : IsWorld w.config w.node_slots.items w.client_slots.items w.records w.place) (k : ℕ) (l : k ≤ 1000) (slot : ClientSlot) (there : slot ≡ get_or w.client_slots.items k slot) where
  module _ (node : ℕ) (tag : Tag) (reply : Reply) (new : ClientView) (e : new ≡ with_task slot.client (goes_to (answer_does slot.client node tag reply))) where
    pub task-counted : new.seen.task ≡ goes_to (answer_does (client_in (the_view w) k) node tag reply)
    task-counted = ap (λ (x : ClientView). x.seen.task) e ∙ ap (λ (x : ClientView). goes_to (answer_does x node tag reply)) (slot-is w good k l slot there)

    pub still-chosen : is_only_counted (answer_does slot.client node tag reply) ≡ true → (t : SeenTask) → slot.client.seen.task ≡ Some t → chosen_of new.seen.task ≡ chosen_stamp t.work t.stage
    still-chosen only t busy =
        let goes = counted (answer_does slot.client node tag reply) only in
        ap chosen_of (ap (λ (x : ClientView). x.seen.task) e ∙ ap goes_to goes.1)
        ∙ same-chosen (setting slot.client.config) slot.client.id t goes.0 node tag reply
        (ap (λ (o : Option SeenTask). hears_answer (setting slot.client.config) slot.client.id o node tag reply) (sym busy) ∙ goes.1)
