-- A client whose operation has changed, and nothing else of it.
use Rattle.std.proofs.Common.{◌≡◌, ℕ, ◌≤◌, get_or, Option, sym, ◌∙◌, ap, subst}
use Rattle.std.specs.declared.option.Option.TheVariants.{Some}
use Rattle.protocol.specs.Instance.{setting}
use Rattle.protocol.specs.Seen.{SeenTask, seen_goes_on}
use Rattle.operation_core.specs.declared.stage.Stage.{Stage}
use Rattle.operation_core.specs.Stages.{stage_of}
use Rattle.operation_core.specs.Counting.{next_task}
use Rattle.operation_core.specs.Clients.{ClientView, with_task}
use Rattle.client_core.specs.Clients.{next_of}
use Rattle.world_state.specs.declared.client_slot.ClientSlot.{ClientSlot}
use Rattle.world_state.specs.declared.state.State.TheInside.{Inside}
use Rattle.world_state.specs.contracts.state.State.{the_view}
use Rattle.world_state.specs.Worlds.{WorldView, world_in}
use Rattle.world_state.specs.Slots.{IsWorld}
use Rattle.world_state.specs.Changes.{client_in}
use Rattle.world_state.specs.AnswerEffects.{IsSame, Becomes}
use Rattle.world_state.proofs.KeptWorlds.{client-within}
use Rattle.world_state.proofs.ClientSlots.{slot-client, client_slot-there}

module _ (w : Inside) (good : IsWorld w.config w.node_slots.items w.client_slots.items w.records w.place) (k : ℕ) (l : k ≤ 1000) (slot : ClientSlot) (there : slot ≡ get_or w.client_slots.items k slot) where
  -- the slot of a number has its client
  pub slot-is : slot.client ≡ client_in (the_view w) k
  slot-is =
      let inside = client-within w good k l in
      let is = good.client_slot k slot (client_slot-there w k inside slot there) in
      λ i. record { config = is.config i; id = is.id i; seen = sym (slot-client w k inside slot there) i }

  module _ (new : ClientView) (task : Option SeenTask) (e : new ≡ with_task slot.client task) where
    changed : new ≡ with_task (client_in (the_view w) k) task
    changed = e ∙ ap (λ (x : ClientView). with_task x task) slot-is

    pub same-client : IsSame (the_view w) k new
    same-client = record {
      config = ap (λ (x : ClientView). x.config) changed;
      id = ap (λ (x : ClientView). x.id) changed;
      life = ap (λ (x : ClientView). x.seen.life) changed;
      started = ap (λ (x : ClientView). x.seen.started) changed;
    }

    -- what its operation may become it is
    pub becomes : (v : WorldView) → the_view w ≡ v → (next : Option SeenTask) → task ≡ next → Becomes v.config v.seen.place ((world_in v).task k) next
        → Becomes w.config w.place ((world_in (the_view w)).task k) new.seen.task
    becomes v view next is may =
        subst (Becomes w.config w.place ((world_in (the_view w)).task k)) (sym (ap (λ (x : ClientView). x.seen.task) e ∙ is))
        (subst (λ (x : WorldView). Becomes x.config x.seen.place ((world_in x).task k) next) (sym view) may)

  -- the next phase of its operation
  pub next-is : (v : WorldView) → the_view w ≡ v → (stage : Stage) → next_task slot.client.config slot.client.seen.task (stage_of stage) ≡ next_of (client_in v k) stage
  next-is v view stage = ap (λ (x : ClientView). next_of x stage) (slot-is ∙ ap (λ (x : WorldView). client_in x k) view)

-- an operation under way has one
pub next-some : (client new : ClientView) (stage : Stage) (t : SeenTask) → client.seen.task ≡ Some t → new ≡ with_task client (next_task client.config client.seen.task (stage_of stage)) → new.seen.task ≡ Some (seen_goes_on (setting client.config) t (stage_of stage))
next-some client new stage t busy e = ap (λ (x : ClientView). x.seen.task) e ∙ ap (λ (o : Option SeenTask). next_task client.config o (stage_of stage)) busy
