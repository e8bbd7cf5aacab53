-- A client comes back.
use Rattle.std.proofs.Common.{◌≡◌, ℕ, ◌+◌, ◌<◌, ◌≤◌, true, false, length, map, get_or, refl, sym, ◌∙◌, ap, subst}
use Rattle.std.specs.Prelude.{slice_set}
use Rattle.std.specs.declared.option.Option.TheVariants.{None}
use Rattle.std.specs.Vec.{with_item}
use Rattle.protocol.specs.Count.{update}
use Rattle.protocol.specs.World.{back_again}
use Rattle.protocol.specs.Seen.{client_at, started_task, record_of}
use Rattle.operation_core.specs.Clients.{ClientView}
use Rattle.world_state.specs.declared.client_slot.ClientSlot.{ClientSlot}
use Rattle.world_state.specs.declared.state.State.TheInside.{Inside}
use Rattle.world_state.specs.contracts.state.State.{the_view}
use Rattle.world_state.specs.Worlds.{setting_in, world_in}
use Rattle.world_state.specs.Slots.{IsWorld, IsTaskOf}
use Rattle.world_state.specs.BlockUses.{AreUses}
use Rattle.world_state.specs.Changes.{HasBecome}
use Rattle.world_state.proofs.BlockUses.{idle_works_nowhere, crashed_works_nowhere, uses-kept, count-kept}
use Rattle.world_state.proofs.KeptWorlds.{raised, with_client_slot}
use Rattle.world_state.proofs.ClientSlots.{world-client_slot, slot-lying}

module _ (w : Inside) (k : ℕ) (inside : k < length w.client_slots.items) (slot : ClientSlot) (good : IsWorld w.config w.node_slots.items w.client_slots.items w.records w.place) (place : ℕ) (later : w.place ≤ place) (again : ClientView) (life : ℕ)
    (is : again ≡ record { config = w.config; id = k; seen = record { life = life; started = 0; task = None } }) where
  abbrev new_slot : ClientSlot
  new_slot = record slot { client = again; crashed = false }

  pub back-kept : IsWorld w.config w.node_slots.items (slice_set w.client_slots.items k new_slot) w.records place
  back-kept =
      raised w.config w.node_slots.items (slice_set w.client_slots.items k new_slot) w.records w.place
      (with_client_slot w.config w.node_slots.items w.client_slots.items w.records w.place good k new_slot
      (record {
        config = ap (λ (x : ClientView). x.config) is;
        id = ap (λ (x : ClientView). x.id) is;
        task = subst (IsTaskOf w.config (map record_of w.records) w.place k slot.start slot.index) (sym (ap (λ (x : ClientView). x.seen.task) is)) tt;
      }))
      place later

  back-world : life ≡ (client_at (the_view w).seen k).life + 1 → world_in (the_view (record w { client_slots = with_item w.client_slots k new_slot; place = place })) ≡ back_again (setting_in (the_view w)) (world_in (the_view w)) place k
  back-world more =
      world-client_slot w k inside new_slot w.pool w.records place
      ∙ (λ i. record (world_in (the_view w)) {
        task = update (world_in (the_view w)).task k (started_task slot.start (is i).seen.task);
        life = update (world_in (the_view w)).life k ((ap (λ (x : ClientView). x.seen.life) is ∙ more) i);
        started = update (world_in (the_view w)).started k (is i).seen.started;
        client_crashed = update (world_in (the_view w)).client_crashed k false;
        place = place;
      })

  pub back-became : slot ≡ get_or w.client_slots.items k slot → life ≡ (client_at (the_view w).seen k).life + 1
      → HasBecome (the_view w) (the_view (record w { client_slots = with_item w.client_slots k new_slot; place = place })) (back_again (setting_in (the_view w)) (world_in (the_view w)) place k)
  back-became there more = record {
    now = back-world more;
    config = refl;
    lying_nodes = refl;
    lying_clients = slot-lying w k inside new_slot slot there refl;
  }

  -- who works where stays: a client that has crashed works nowhere
  pub back-uses : slot ≡ get_or w.client_slots.items k slot → slot.crashed ≡ true → AreUses w.config w.client_slots.items w.records w.uses.items → AreUses w.config (slice_set w.client_slots.items k new_slot) w.records w.uses.items
  back-uses there crashed uses =
      uses-kept w.config w.client_slots.items w.records w.uses.items uses (slice_set w.client_slots.items k new_slot) w.records
      (λ block. count-kept w.config w.client_slots.items w.records w.uses.items uses k inside slot new_slot there block
      (idle_works_nowhere block new_slot (ap (λ (x : ClientView). x.seen.task) is) ∙ sym (crashed_works_nowhere block slot crashed)))
      (λ block. refl)
