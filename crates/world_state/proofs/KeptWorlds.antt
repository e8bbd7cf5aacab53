-- What a change of one slot, of its record and of the place leaves of a kept world.
use Rattle.std.proofs.Common.{◌≡◌, ℕ, ◌<◌, ◌≤◌, suc, List, [], ◌∷◌, ◌++◌, length, map, Option, refl, sym, ◌∙◌, ap, inl, inr, arith}
use Rattle.std.specs.Prelude.{slice_get, slice_set}
use Rattle.std.specs.Option.{option_map}
use Rattle.std.specs.declared.option.Option.TheVariants.{None, Some}
use Rattle.std.specs.List.{AllByRecursion}
use Rattle.std.proofs.Math.Seq.{map-set_same}
use Rattle.std.proofs.lemmas.List.{length-set, map-append, map-set}
use Rattle.std.proofs.lemmas.Option.{get_or_from_slice_get, slice_get-map}
use Rattle.quorum_rules.specs.Limits.{Numbers}
use Rattle.run_words.specs.declared.record.Record.{Record as Told}
use Rattle.protocol.specs.World.{Record, open_record}
use Rattle.protocol.specs.Seen.{SeenTask, task_at, record_of}
use Rattle.protocol.proofs.lemmas.Starts.{ascend_push}
use Rattle.world_state.specs.declared.node_slot.NodeSlot.{NodeSlot}
use Rattle.world_state.specs.declared.client_slot.ClientSlot.{ClientSlot}
use Rattle.world_state.specs.declared.state.State.TheInside.{Inside}
use Rattle.world_state.specs.Slots.{IsWorld, IsClientSlot, IsTaskOf}
use Rattle.world_state.proofs.ListItems.{slice_get-set_cases, slice_get-set_other, slice_get-push_cases}
use Rattle.lists.proofs.lemmas.Members.{slice_get-push}

-- a task stays told where the place is raised, and the record of its number is what it was
task_kept : (c : Numbers) (records more : List Record) (p q k start index : ℕ) (o : Option SeenTask)
    → p ≤ q → ((t : SeenTask) → o ≡ Some t → slice_get records index ≡ Some (open_record k (task_at start t)) → slice_get more index ≡ Some (open_record k (task_at start t)))
    → IsTaskOf c records p k start index o → IsTaskOf c more q k start index o
task_kept c records more p q k start index None l told h = tt
task_kept c records more p q k start index (Some t) l told h =
    record { answers = h.answers; phases = (let r = h.phases in omega (arith, r, l)); told = told t refl h.told }

client_slot_kept : (c : Numbers) (records more : List Record) (p q k : ℕ) (s : ClientSlot)
    → p ≤ q → ((t : SeenTask) → s.client.seen.task ≡ Some t → slice_get records s.index ≡ Some (open_record k (task_at s.start t)) → slice_get more s.index ≡ Some (open_record k (task_at s.start t)))
    → IsClientSlot c records p k s → IsClientSlot c more q k s
client_slot_kept c records more p q k s l told h =
    record { config = h.config; id = h.id; task = task_kept c records more p q k s.start s.index s.client.seen.task l told h.task }

-- the records' starts are below a greater place
all_below : (rs : List Told) (n : ℕ) → ((k : ℕ) (r : Told) → slice_get rs k ≡ Some r → r.start < n) → AllByRecursion (λ m. m < n) (map (λ r. r.start) rs)
all_below [] n h = tt
all_below (r ∷ rs) n h = (h 0 r refl, all_below rs n (λ k x e. h (suc k) x e))

-- each client has a slot
pub client-within : (w : Inside) → IsWorld w.config w.node_slots.items w.client_slots.items w.records w.place → (k : ℕ) → k ≤ 1000 → k < length w.client_slots.items
client-within w h k l = let e = h.clients in omega (arith, e, l)

module _ (c : Numbers) (node_slots : List NodeSlot) (client_slots : List ClientSlot) (records : List Told) (p : ℕ) (h : IsWorld c node_slots client_slots records p) where
  -- the place is raised
  pub raised : (q : ℕ) → p ≤ q → IsWorld c node_slots client_slots records q
  raised q l = record {
    valid = h.valid;
    nodes = h.nodes;
    node_slot = h.node_slot;
    clients = h.clients;
    client_slot = λ k s e. client_slot_kept c (map record_of records) (map record_of records) p q k s l (λ t f g. g) (h.client_slot k s e);
    ascend = h.ascend;
    placed = λ k r e. (let m = h.placed k r e in omega (arith, m, l));
  }

  module _ (k : ℕ) (s : ClientSlot) where
    -- the slot of number k is another one
    pub with_client_slot : IsClientSlot c (map record_of records) p k s → IsWorld c node_slots (slice_set client_slots k s) records p
    with_client_slot new = record {
      valid = h.valid;
      nodes = h.nodes;
      node_slot = h.node_slot;
      clients = length-set client_slots k s ∙ h.clients;
      client_slot = λ j x e. elim (slice_get-set_cases client_slots k s j x e) [ inl f ↦ rw (f.0, f.1) new | inr f ↦ h.client_slot j x f.1 ];
      ascend = h.ascend;
      placed = h.placed;
    }

    -- and so is the record of its operation under way
    pub told : (index : ℕ) (old new : Told) (r : Record) → slice_get records index ≡ Some old → record_of old ≡ r → r.client ≡ k → new.start ≡ old.start
        → ((j : ℕ) (x : ClientSlot) (t : SeenTask) → Some (open_record j (task_at x.start t)) ≡ Some r → j ≡ k)
        → IsClientSlot c (map record_of (slice_set records index new)) p k s → IsWorld c node_slots (slice_set client_slots k s) (slice_set records index new) p
    told index old new r there is own start only client_slot =
        record {
          valid = h.valid;
          nodes = h.nodes;
          node_slot = h.node_slot;
          clients = length-set client_slots k s ∙ h.clients;
          client_slot = λ j x e. elim (slice_get-set_cases client_slots k s j x e) [
            | inl f ↦ rw (f.0, f.1) client_slot
            | inr f ↦ client_slot_kept c (map record_of records) (map record_of (slice_set records index new)) p p j x (omega arith) (λ t g there. other j x t f.0 there) (h.client_slot j x f.1)
          ];
          ascend = rw (map-set_same (λ (x : Told). x.start) records index new old (start ∙ ap (λ (x : Told). x.start) (sym (get_or_from_slice_get records index old old there)))) h.ascend;
          placed = λ j x e. elim (slice_get-set_cases records index new j x e) [
            | inl f ↦ (let l = h.placed index old there in let g = f.1 in rw (f.1, start) l)
            | inr f ↦ h.placed j x f.1
          ];
        }
      where
        other : (j : ℕ) (x : ClientSlot) (t : SeenTask) → (j ≡ k → ⊥) → slice_get (map record_of records) x.index ≡ Some (open_record j (task_at x.start t))
            → slice_get (map record_of (slice_set records index new)) x.index ≡ Some (open_record j (task_at x.start t))
        other j x t ne e =
            rw map-set (slice_get-set_other (map record_of records) index (record_of new) x.index (open_record j (task_at x.start t))
            (λ same. ne (only j x t (sym e ∙ ap (λ i. slice_get (map record_of records) i) same ∙ slice_get-map record_of records index ∙ ap (option_map record_of) there ∙ ap Some is))) e)

    -- or a record of its own is added, of a greater place
    pub added : (q : ℕ) (new : Told) → p < q → new.start ≡ q → IsClientSlot c (map record_of (records ++ new ∷ [])) q k s → IsWorld c node_slots (slice_set client_slots k s) (records ++ new ∷ []) q
    added q new later start client_slot = record {
      valid = h.valid;
      nodes = h.nodes;
      node_slot = h.node_slot;
      clients = length-set client_slots k s ∙ h.clients;
      client_slot = λ j x e. elim (slice_get-set_cases client_slots k s j x e) [
        | inl f ↦ rw (f.0, f.1) client_slot
        | inr f ↦ client_slot_kept c (map record_of records) (map record_of (records ++ new ∷ [])) p q j x (omega (arith, later)) (λ t g there. rw map-append (slice_get-push (map record_of records) (record_of new) x.index _ there)) (h.client_slot j x f.1)
      ];
      ascend = rw map-append (ascend_push (map (λ r. r.start) records) new.start h.ascend (all_below records new.start (λ j r e. let m = h.placed j r e in omega (arith, m, later, start))));
      placed = λ j x e. elim (slice_get-push_cases records new j x e) [
        | inl f ↦ (let g : x.start ≡ new.start = ap (λ (y : Told). y.start) f.1 in omega (arith, g, start))
        | inr f ↦ (let m = h.placed j x f in omega (arith, m, later))
      ];
    }
