-- A client becomes the one that heard a message, and its record tells how its operation stands.
use Rattle.std.proofs.Common.{◌≡◌, ◌⊎◌, ℕ, zero, suc, ◌<◌, Bool, true, false, cond, ◌&&◌, List, [], ◌∷◌, length, map, get_or, Option, refl, sym, ◌∙◌, ap, subst, inl, inr, arith, eqb}
use Rattle.std.specs.Prelude.{slice_get, slice_set, IfSome}
use Rattle.std.specs.Option.{option_map}
use Rattle.std.specs.declared.option.Option.TheVariants.{None, Some}
use Rattle.std.specs.List.{AllByRecursion}
use Rattle.std.proofs.lemmas.Bool.Decides.{eqb_tells}
use Rattle.std.proofs.lemmas.List.{map-set}
use Rattle.std.proofs.lemmas.Option.{slice_get_within, slice_get-map}
use Rattle.std.proofs.lemmas.Simd.{map-map}
use Rattle.std.specs.Vec.{with_item}
use Rattle.run_words.specs.declared.record.Record.{Record as Told}
use Rattle.protocol.specs.Count.{update}
use Rattle.protocol.specs.Messages.{Stamp}
use Rattle.protocol.specs.Operations.{Task, Outcome}
use Rattle.protocol.specs.World.{Record, open_record, with_record, replaced_by, chosen_stamp}
use Rattle.protocol.specs.Report.{Ascend}
use Rattle.protocol.specs.Seen.{SeenTask, task_at, started_task, record_of}
use Rattle.operation_core.specs.Clients.{ClientView}
use Rattle.world_state.specs.declared.client_slot.ClientSlot.{ClientSlot}
use Rattle.world_state.specs.declared.state.State.TheInside.{Inside}
use Rattle.world_state.specs.contracts.state.State.{the_view}
use Rattle.world_state.specs.Worlds.{world_in}
use Rattle.world_state.specs.Slots.{IsWorld, IsTaskOf, IsUnderWay}
use Rattle.world_state.specs.Changes.{HasBecome}
use Rattle.world_state.specs.AnswerEffects.{IsSame, Becomes, settled}
use Rattle.world_state.proofs.ListItems.{slice_get-set_same}
use Rattle.world_state.proofs.KeptWorlds.{told}
use Rattle.world_state.proofs.ClientSlots.{update-known, world-client_slot, slot-lying, slot-task, slot-crashed, client_slot-there}
use Rattle.lists.proofs.lemmas.Members.{slice_set-there}

-- ---- the record of an operation is the one that began at its place

kept_apart : (new x : Record) → (x.start ≡ new.start → ⊥) → replaced_by new x ≡ x
kept_apart new x apart = at (eqb x.client new.client) (eqb x.start new.start) (eqb_tells x.start new.start)
  where
    at : (a b : Bool) → ((b ≡ true) × (x.start ≡ new.start)) ⊎ ((b ≡ false) × (x.start ≡ new.start → ⊥)) → cond (a && b) new x ≡ x
    at false b e = refl
    at true b (inl e) = absurd (apart e.1)
    at true b (inr e) = rw (e.0) refl

not_replaced : (new : Record) (xs : List Record) → AllByRecursion (λ y. new.start < y) (map (λ r. r.start) xs) → with_record xs new ≡ xs
not_replaced new [] h = refl
not_replaced new (x ∷ xs) h = λ i. kept_apart new x (λ e. let l = h.0 in omega (arith, l, e)) i ∷ not_replaced new xs h.1 i

replaced_here : (new x : Record) → x.client ≡ new.client → x.start ≡ new.start → replaced_by new x ≡ new
replaced_here new x e f = at (eqb x.client new.client) (eqb x.start new.start) (eqb_tells x.client new.client) (eqb_tells x.start new.start)
  where
    at : (a b : Bool) → ((a ≡ true) × (x.client ≡ new.client)) ⊎ ((a ≡ false) × (x.client ≡ new.client → ⊥)) → ((b ≡ true) × (x.start ≡ new.start)) ⊎ ((b ≡ false) × (x.start ≡ new.start → ⊥)) → cond (a && b) new x ≡ new
    at a b (inl g) (inl k) = rw (g.0, k.0) refl
    at a b (inr g) k = absurd (g.1 e)
    at a b (inl g) (inr k) = absurd (k.1 f)

above_all : (y : ℕ) (xs : List Record) (i : ℕ) (x : Record) → AllByRecursion (λ z. y < z) (map (λ r. r.start) xs) → slice_get xs i ≡ Some x → y < x.start
above_all y [] i x h e = absurd (cc)
above_all y (z ∷ zs) zero x h e = let q : z ≡ x = cc in subst (λ (r : Record). y < r.start) q h.0
above_all y (z ∷ zs) (suc i) x h e = above_all y zs i x h.1 e

-- so to put a record in its place is to set the one of its number
pub with_record-set : (rs : List Record) (i : ℕ) (old new : Record) → Ascend (map (λ r. r.start) rs) → slice_get rs i ≡ Some old → old.client ≡ new.client → old.start ≡ new.start → slice_set rs i new ≡ with_record rs new
with_record-set [] i old new h e f g = absurd (cc)
with_record-set (x ∷ xs) zero old new h e f g =
    let q : x ≡ old = cc in
    λ j. sym (replaced_here new x (ap (λ (r : Record). r.client) q ∙ f) (ap (λ (r : Record). r.start) q ∙ g)) j
    ∷ sym (not_replaced new xs (subst (λ n. AllByRecursion (λ y. n < y) (map (λ r. r.start) xs)) (ap (λ (r : Record). r.start) q ∙ g) h.0)) j
with_record-set (x ∷ xs) (suc i) old new h e f g =
    let l = above_all x.start xs i old h.0 e in
    λ j. sym (kept_apart new x (λ q. omega (arith, l, g, q))) j ∷ with_record-set xs i old new h.1 e f g j

-- ---- the change of a slot and its record

module _ (w : Inside) (k : ℕ) (inside : k < length w.client_slots.items) (slot : ClientSlot) (there : slot ≡ get_or w.client_slots.items k slot) (good : IsWorld w.config w.node_slots.items w.client_slots.items w.records w.place) where
  -- the record of an operation under way
  pub record-there : (t : SeenTask) → slot.client.seen.task ≡ Some t → (r : Told) × (slice_get w.records slot.index ≡ Some r) × (record_of r ≡ open_record k (task_at slot.start t))
  record-there t e = at (slice_get w.records slot.index) refl
    where
      way : IsUnderWay w.config (map record_of w.records) w.place k slot.start slot.index t
      way = subst (IsTaskOf w.config (map record_of w.records) w.place k slot.start slot.index) e (good.client_slot k slot (client_slot-there w k inside slot there)).task

      at : (o : Option Told) → slice_get w.records slot.index ≡ o → (r : Told) × (o ≡ Some r) × (record_of r ≡ open_record k (task_at slot.start t))
      at None f = absurd (let g : option_map record_of None ≡ Some (open_record k (task_at slot.start t)) = ap (option_map record_of) (sym f) ∙ sym (slice_get-map record_of w.records slot.index) ∙ way.told in cc)
      at (Some r) f = (r, refl, (let g : option_map record_of (Some r) ≡ Some (open_record k (task_at slot.start t)) = ap (option_map record_of) (sym f) ∙ sym (slice_get-map record_of w.records slot.index) ∙ way.told in cc))

  pub record-within : (t : SeenTask) → slot.client.seen.task ≡ Some t → slot.index < length w.records
  record-within t e = let r = record-there t e in slice_get_within w.records slot.index r.0 r.1

  -- the record of an operation that goes on with the stamp that it had stays as it is
  pub record-stays : (t : SeenTask) → slot.client.seen.task ≡ Some t → (stamp : Option Stamp) → stamp ≡ chosen_stamp t.work t.stage → (r : Told) → slice_get w.records slot.index ≡ Some r
      → w.records ≡ slice_set w.records slot.index (record r { end = None; stamp = stamp; outcome = None })
  record-stays t e stamp chosen r known =
      let found = record-there t e in
      let q : found.0 ≡ r = (let a = found.1 in cc) in
      let opened : record_of r ≡ open_record k (task_at slot.start t) = subst (λ (x : Told). record_of x ≡ open_record k (task_at slot.start t)) q found.2 in
      let same : record r { end = None; stamp = stamp; outcome = None } ≡ r = (λ i. record r {
        end = sym (ap (λ (x : Record). x.end) opened) i;
        stamp = (chosen ∙ sym (ap (λ (x : Record). x.stamp) opened)) i;
        outcome = sym (ap (λ (x : Record). x.outcome) opened) i;
      }) in
      sym (ap (slice_set w.records slot.index) same ∙ slice_set-there w.records slot.index r known)

  module _ (t : SeenTask) (under_way : slot.client.seen.task ≡ Some t) (hearer : ClientView) (same : IsSame (the_view w) k hearer) (end : Option ℕ) (stamp : Option Stamp) (outcome : Option Outcome) (r : Told) (known : slice_get w.records slot.index ≡ Some r)
      (opened : record_of r ≡ open_record k (task_at slot.start t)) where
    -- the record that tells how the operation stands
    abbrev new_record : Told
    new_record = record r { end = end; stamp = stamp; outcome = outcome }

    abbrev new_slot : ClientSlot
    new_slot = record slot { client = hearer }

    new_told : record_of new_record ≡ record { client = k; block = t.block; work = t.work; start = slot.start; end = end; stamp = stamp; outcome = outcome }
    new_told = ap (λ (x : Record). record x { end = end; stamp = stamp; outcome = outcome }) opened

    next_slot : (o : Option SeenTask) → hearer.seen.task ≡ o → Becomes w.config w.place (Some (task_at slot.start t)) o → IfSome o (λ u. (end ≡ None) × (stamp ≡ chosen_stamp u.work u.stage) × (outcome ≡ None))
        → IsTaskOf w.config (map record_of (slice_set w.records slot.index new_record)) w.place k slot.start slot.index o
    next_slot None e may told = tt
    next_slot (Some u) e may told = record {
      answers = may.answers;
      phases = may.phases;
      told =
          slice_get-map record_of (slice_set w.records slot.index new_record) slot.index
          ∙ ap (option_map record_of) (slice_get-set_same w.records slot.index new_record (slice_get_within w.records slot.index r known))
          ∙ ap Some (new_told ∙ (λ i. record { client = k; block = sym may.block i; work = sym may.work i; start = slot.start; end = told.0 i; stamp = told.1 i; outcome = told.2 i }));
    }

    pub world-kept : Becomes w.config w.place (Some (task_at slot.start t)) hearer.seen.task → IfSome hearer.seen.task (λ u. (end ≡ None) × (stamp ≡ chosen_stamp u.work u.stage) × (outcome ≡ None))
        → IsWorld w.config w.node_slots.items (slice_set w.client_slots.items k new_slot) (slice_set w.records slot.index new_record) w.place
    world-kept may standing =
        told w.config w.node_slots.items w.client_slots.items w.records w.place good k new_slot slot.index r new_record (open_record k (task_at slot.start t)) known opened refl refl
        (λ j x u e. let q : open_record j (task_at x.start u) ≡ open_record k (task_at slot.start t) = cc in ap (λ (y : Record). y.client) q)
        (record { config = same.config; id = same.id; task = next_slot hearer.seen.task refl may standing })

    pub world-settled : world_in (the_view (record w { client_slots = with_item w.client_slots k new_slot; records = slice_set w.records slot.index new_record }))
        ≡ settled (world_in (the_view w)) k (task_at slot.start t) hearer.seen.task end stamp outcome
    world-settled =
        world-client_slot w k inside new_slot w.pool (slice_set w.records slot.index new_record) w.place
        ∙ (λ i. record (world_in (the_view w)) {
          task = update (world_in (the_view w)).task k (started_task slot.start hearer.seen.task);
          life = update-known (world_in (the_view w)).life k hearer.seen.life same.life i;
          started = update-known (world_in (the_view w)).started k hearer.seen.started same.started i;
          client_crashed = update-known (world_in (the_view w)).client_crashed k slot.crashed (sym (slot-crashed w k inside slot there)) i;
          records = records_are i;
        })
      where
        records_are : map record_of (slice_set w.records slot.index new_record) ≡ with_record (map record_of w.records) (record { client = k; block = t.block; work = t.work; start = slot.start; end = end; stamp = stamp; outcome = outcome })
        records_are =
            map-set record_of w.records slot.index new_record
            ∙ ap (slice_set (map record_of w.records) slot.index) new_told
            ∙ with_record-set (map record_of w.records) slot.index (open_record k (task_at slot.start t)) _ (rw map-map good.ascend)
            (slice_get-map record_of w.records slot.index ∙ ap (option_map record_of) known ∙ ap Some opened) refl refl

  -- all of it, where an operation is under way
  module _ (hearer : ClientView) (same : IsSame (the_view w) k hearer) (end : Option ℕ) (stamp : Option Stamp) (outcome : Option Outcome) (may : Becomes w.config w.place ((world_in (the_view w)).task k) hearer.seen.task) where
    pub task-there : (t : SeenTask) × (slot.client.seen.task ≡ Some t)
    task-there = at slot.client.seen.task refl (subst (λ o. Becomes w.config w.place o hearer.seen.task) (slot-task w k inside slot there) may)
      where
        at : (o : Option SeenTask) → slot.client.seen.task ≡ o → Becomes w.config w.place (started_task slot.start o) hearer.seen.task → (t : SeenTask) × (slot.client.seen.task ≡ Some t)
        at None e m = absurd m
        at (Some t) e m = (t, e)

    pub task-is : (world_in (the_view w)).task k ≡ Some (task_at slot.start task-there.0)
    task-is = slot-task w k inside slot there ∙ ap (started_task slot.start) task-there.1

    pub settle-within : slot.index < length w.records
    settle-within = record-within task-there.0 task-there.1

    module _ (standing : IfSome hearer.seen.task (λ u. (end ≡ None) × (stamp ≡ chosen_stamp u.work u.stage) × (outcome ≡ None))) (records : List Told)
        (are : (r : Told) → slice_get w.records slot.index ≡ Some r → records ≡ slice_set w.records slot.index (record r { end = end; stamp = stamp; outcome = outcome })) where
      known : (r : Told) × (slice_get w.records slot.index ≡ Some r) × (record_of r ≡ open_record k (task_at slot.start task-there.0))
      known = record-there task-there.0 task-there.1

      pub settle-kept : IsWorld w.config w.node_slots.items (slice_set w.client_slots.items k (record slot { client = hearer })) records w.place
      settle-kept =
          rw (are known.0 known.1)
          (world-kept task-there.0 task-there.1 hearer same end stamp outcome known.0 known.1 known.2 (subst (λ o. Becomes w.config w.place o hearer.seen.task) task-is may) standing)

      pub settle-world : IfSome ((world_in (the_view w)).task k)
          (λ t. HasBecome (the_view w) (the_view (record w { client_slots = with_item w.client_slots k (record slot { client = hearer }); records = records })) (settled (world_in (the_view w)) k t hearer.seen.task end stamp outcome))
      settle-world =
          subst
          (λ (o : Option Task). IfSome o (λ t. HasBecome (the_view w) (the_view (record w { client_slots = with_item w.client_slots k (record slot { client = hearer }); records = records })) (settled (world_in (the_view w)) k t hearer.seen.task end stamp outcome)))
          (sym task-is)
          (record {
            now =
                ap (λ (rs : List Told). world_in (the_view (record w { client_slots = with_item w.client_slots k (record slot { client = hearer }); records = rs }))) (are known.0 known.1)
                ∙ world-settled task-there.0 task-there.1 hearer same end stamp outcome known.0 known.1 known.2;
            config = refl;
            lying_nodes = refl;
            lying_clients = slot-lying w k inside (record slot { client = hearer }) slot there refl;
          })
