-- A slot's client, as the world of the definitions has it, and that world when the slot is another one.
use Rattle.std.proofs.Common.{◌≡◌, ℕ, ◌<◌, Bool, false, List, length, map, get_or, Option, refl, sym, ◌∙◌, ap, inl, inr, arith}
use Rattle.std.specs.Prelude.{slice_get, slice_set}
use Rattle.std.specs.declared.option.Option.TheVariants.{Some}
use Rattle.std.specs.Vec.{with_item}
use Rattle.std.proofs.Math.Seq.{map-set_same}
use Rattle.std.proofs.lemmas.List.{length-map, map-set, get_or-map}
use Rattle.std.proofs.lemmas.Option.{slice_get_read}
use Rattle.run_words.specs.declared.record.Record.{Record as Told}
use Rattle.protocol.specs.Count.{update}
use Rattle.protocol.specs.Messages.{Message}
use Rattle.protocol.specs.Setting.{Setting}
use Rattle.protocol.specs.Operations.{Task}
use Rattle.protocol.specs.World.{World}
use Rattle.protocol.specs.Seen.{SeenClient, SeenWorld, client_at, new_client, started_task, world_of, record_of}
use Rattle.protocol.proofs.lemmas.Counting.{update-cases}
use Rattle.protocol.proofs.lemmas.Seeing.{funext, life-set, started-set, task-begun, client_crashed-set}
use Rattle.world_state.specs.declared.client_slot.ClientSlot.{ClientSlot}
use Rattle.world_state.specs.declared.state.State.TheInside.{Inside}
use Rattle.world_state.specs.contracts.state.State.{the_view}
use Rattle.world_state.specs.Worlds.{setting_in, world_in}

-- a function whose value is set to what it is
pub update-known : {A : Type 0} (f : ℕ → A) (k : ℕ) (v : A) → v ≡ f k → update f k v ≡ f
update-known f k v e = funext _ _ (λ j. elim (update-cases f k v j) [ inl h ↦ h.1 ∙ e ∙ ap f (sym h.0) | inr h ↦ h.1 ])

-- the seen world with this client, its start and whether it crashed
abbrev with_client : SeenWorld → ℕ → SeenClient → ℕ → Bool → SeenWorld
with_client v k client start crashed =
    record v { clients = slice_set v.clients k client; starts = slice_set v.starts k start; client_crashed = slice_set v.client_crashed k crashed }

-- the world with this client, its operation, and whether it crashed
abbrev pub with_client_at : World → ℕ → SeenClient → Option Task → Bool → World
with_client_at w k client task crashed = record w {
  task = update w.task k task;
  life = update w.life k client.life;
  started = update w.started k client.started;
  client_crashed = update w.client_crashed k crashed;
}

world-client : (s : Setting) (v : SeenWorld) (k : ℕ) (client : SeenClient) (start : ℕ) (crashed : Bool) → k < length v.clients → k < length v.starts → k < length v.client_crashed
    → world_of s (with_client v k client start crashed) ≡ with_client_at (world_of s v) k client (started_task start client.task) crashed
world-client s v k client start crashed a b c i =
    record (world_of s v) {
      task = task-begun s v k client a start b i;
      life = life-set s v k client a i;
      started = started-set s v k client a i;
      client_crashed = client_crashed-set s v k crashed c i;
    }

module _ (w : Inside) (k : ℕ) (inside : k < length w.client_slots.items) where
  -- the world with another slot, and these messages, records and place
  pub world-client_slot : (s : ClientSlot) (pool : List Message) (records : List Told) (place : ℕ)
      → world_in (the_view (record w { pool = pool; client_slots = with_item w.client_slots k s; records = records; place = place }))
      ≡ with_client_at (world_in (the_view (record w { pool = pool; records = records; place = place }))) k s.client.seen (started_task s.start s.client.seen.task) s.crashed
  world-client_slot s pool records place =
      (λ i. world_of (setting_in (the_view w)) (record (the_view w).seen {
        pool = pool;
        clients = map-set (λ (x : ClientSlot). x.client.seen) w.client_slots.items k s i;
        starts = map-set (λ (x : ClientSlot). x.start) w.client_slots.items k s i;
        client_crashed = map-set (λ (x : ClientSlot). x.crashed) w.client_slots.items k s i;
        records = map record_of records;
        place = place;
      }))
      ∙ world-client (setting_in (the_view w)) (record (the_view w).seen { pool = pool; records = map record_of records; place = place }) k s.client.seen s.start s.crashed
      (let e = length-map w.client_slots.items (λ (x : ClientSlot). x.client.seen) in omega (arith, e, inside))
      (let e = length-map w.client_slots.items (λ (x : ClientSlot). x.start) in omega (arith, e, inside))
      (let e = length-map w.client_slots.items (λ (x : ClientSlot). x.crashed) in omega (arith, e, inside))

  -- who lies stays, where the slot's client does
  pub slot-lying : (s old : ClientSlot) → old ≡ get_or w.client_slots.items k old → s.lying ≡ old.lying → map (λ (x : ClientSlot). x.lying) (slice_set w.client_slots.items k s) ≡ map (λ (x : ClientSlot). x.lying) w.client_slots.items
  slot-lying s old e f = map-set_same (λ (x : ClientSlot). x.lying) w.client_slots.items k s old (f ∙ ap (λ (x : ClientSlot). x.lying) e)

  module _ (old : ClientSlot) (there : old ≡ get_or w.client_slots.items k old) where
    pub client_slot-there : slice_get w.client_slots.items k ≡ Some old
    client_slot-there = slice_get_read w.client_slots.items (length w.client_slots.items) k old refl inside there

    -- the client of the slot
    pub slot-client : client_at (the_view w).seen k ≡ old.client.seen
    slot-client = get_or-map (λ (x : ClientSlot). x.client.seen) w.client_slots.items k old new_client inside ∙ ap (λ (x : ClientSlot). x.client.seen) (sym there)

    -- its operation in the world
    pub slot-task : (world_in (the_view w)).task k ≡ started_task old.start old.client.seen.task
    slot-task i = started_task ((get_or-map (λ (x : ClientSlot). x.start) w.client_slots.items k old 0 inside ∙ ap (λ (x : ClientSlot). x.start) (sym there)) i) (slot-client i).task

    pub slot-crashed : (world_in (the_view w)).client_crashed k ≡ old.crashed
    slot-crashed = get_or-map (λ (x : ClientSlot). x.crashed) w.client_slots.items k old false inside ∙ ap (λ (x : ClientSlot). x.crashed) (sym there)
