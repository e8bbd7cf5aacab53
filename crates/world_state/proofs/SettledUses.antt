-- The use of a block whose operation goes on, ends, or stops with its client's crash.
use Rattle.std.proofs.Common.{◌≡◌, ◌⊎◌, ℕ, ◌+◌, ◌-◌, ◌<◌, ◌≤◌, Bool, true, false, cond, not, ◌&&◌, eqb, List, length, map, get_or, Option, refl, sym, ◌∙◌, ap, subst, inl, inr, arith}
use Rattle.std.specs.Prelude.{IfSome, nat_lt, slice_get, slice_set, slice_index_or}
use Rattle.std.specs.Option.{option_map}
use Rattle.std.specs.List.{count_by}
use Rattle.std.specs.declared.option.Option.TheVariants.{None, Some}
use Rattle.std.proofs.lemmas.List.{take_all, get_or_default}
use Rattle.std.proofs.lemmas.Option.{slice_get_cases}
use Rattle.stamp_order.specs.declared.Stamp.{Stamp}
use Rattle.run_words.specs.declared.record.Record.{Record as Told}
use Rattle.protocol.specs.Count.{count}
use Rattle.protocol.specs.Operations.{Task, Outcome}
use Rattle.protocol.specs.World.{Record, open_record, chosen_stamp, unless, under_way, stamp_given, given_of, greater_stamp, greatest_given}
use Rattle.protocol.specs.Lines.{is_at, is_busy_at}
use Rattle.protocol.specs.Seen.{SeenTask, task_at, started_task, block_of, chosen_of, record_of}
use Rattle.operation_core.specs.Clients.{ClientView}
use Rattle.world_state.specs.declared.block_use.BlockUse.{BlockUse}
use Rattle.world_state.specs.declared.client_slot.ClientSlot.{ClientSlot}
use Rattle.world_state.specs.declared.state.State.TheInside.{Inside}
use Rattle.world_state.specs.contracts.state.State.{the_view}
use Rattle.world_state.specs.Worlds.{setting_in, world_in}
use Rattle.world_state.specs.Slots.{IsWorld}
use Rattle.world_state.specs.BlockUses.{is_on, works_at, unused, IsAtWork, one_less, AreUses}
use Rattle.world_state.specs.AnswerEffects.{IsSame, MayGoOn, Becomes}
use Rattle.world_state.proofs.ClientSlots.{slot-task, slot-crashed}
use Rattle.world_state.proofs.GreatestGiven.{given_none, given_here, given_elsewhere, greatest-told}
use Rattle.world_state.proofs.BlockUses.{count_items, works_on_task, idle_works_nowhere, crashed_works_nowhere, used-there, use-there, uses-kept, uses-set, count-kept, works-there}
use Rattle.world_state.proofs.SettledRecords.{record-there, task-there, task-is}
use Rattle.lists.proofs.lemmas.Tests.{eqb_self}
use Rattle.std.proofs.lemmas.Bool.{ne_eqb}

-- ---- the world's count

at_is_on : (block start : ℕ) (b : Bool) (o : Option SeenTask) → is_at block (unless b (started_task start o)) ≡ not b && is_on block o
at_is_on block start true o = refl
at_is_on block start false None = refl
at_is_on block start false (Some t) = refl

-- how many clients work on a block
pub busy-count : (w : Inside) → length w.client_slots.items ≡ 1001 → (block : ℕ) → count 1001 (λ k. is_at block (under_way (world_in (the_view w)) k)) ≡ count_by (works_at block) w.client_slots.items
busy-count w many block =
    count_items (works_at block) w.client_slots.items (λ k. is_at block (under_way (world_in (the_view w)) k))
    (λ k x e l there. (λ i. is_at block (unless (slot-crashed w k l x there i) (slot-task w k l x there i))) ∙ at_is_on block x.start x.crashed x.client.seen.task)
    1001 (omega (arith, many))
    ∙ ap (count_by (works_at block)) (take_all 1001 w.client_slots.items (omega (arith, many)))

-- as the use of the block tells
pub busy-use : (w : Inside) → length w.client_slots.items ≡ 1001 → AreUses w.config w.client_slots.items w.records w.uses.items → (block : ℕ) (u : BlockUse) → slice_index_or w.uses.items block unused ≡ u
    → nat_lt 0 u.at_work ≡ is_busy_at (setting_in (the_view w)) (world_in (the_view w)) block
busy-use w many uses block u e = ap (λ (x : BlockUse). nat_lt 0 x.at_work) (sym e ∙ uses.each block) ∙ ap (nat_lt 0) (sym (busy-count w many block))

module _ (w : Inside) (k : ℕ) (inside : k < length w.client_slots.items) (slot : ClientSlot) (there : slot ≡ get_or w.client_slots.items k slot) (good : IsWorld w.config w.node_slots.items w.client_slots.items w.records w.place)
    (uses : AreUses w.config w.client_slots.items w.records w.uses.items) where
  -- what a client that hasn't crashed does
  pub under-way-slot : under_way (world_in (the_view w)) k ≡ unless slot.crashed (started_task slot.start slot.client.seen.task)
  under-way-slot i = unless (slot-crashed w k inside slot there i) (slot-task w k inside slot there i)

  -- the block that it works on
  pub left-is : option_map (λ (t : Task). t.block) (under_way (world_in (the_view w)) k) ≡ option_map (λ (t : Task). t.block) (unless slot.crashed (started_task slot.start slot.client.seen.task))
  left-is = ap (option_map (λ (t : Task). t.block)) under-way-slot

  pub left-none : (slot.crashed ≡ true) ⊎ (slot.client.seen.task ≡ None) → None ≡ option_map (λ (t : Task). t.block) (under_way (world_in (the_view w)) k)
  left-none h = sym (left-is ∙ at slot.crashed slot.client.seen.task h)
    where
      at : (b : Bool) (o : Option SeenTask) → (b ≡ true) ⊎ (o ≡ None) → option_map (λ (t : Task). t.block) (unless b (started_task slot.start o)) ≡ None
      at true o h = refl
      at false None h = refl
      at false (Some t) (inl e) = absurd (cc)
      at false (Some t) (inr e) = absurd (cc)

  pub some-task : (slot.client.seen.task ≡ None → ⊥) → (t : SeenTask) × (slot.client.seen.task ≡ Some t)
  some-task h = at slot.client.seen.task refl
    where
      at : (o : Option SeenTask) → slot.client.seen.task ≡ o → (t : SeenTask) × (o ≡ Some t)
      at None e = absurd (h e)
      at (Some t) e = (t, refl)

  module _ (t : SeenTask) (busy : slot.client.seen.task ≡ Some t) where
    pub left-some : slot.crashed ≡ false → (b : ℕ) → b ≡ t.block → Some b ≡ option_map (λ (t : Task). t.block) (under_way (world_in (the_view w)) k)
    left-some awake b e = ap Some e ∙ sym (left-is ∙ (λ i. option_map (λ (t : Task). t.block) (unless (awake i) (started_task slot.start (busy i)))))

    module _ (awake : slot.crashed ≡ false) where
      at-work : works_at t.block slot ≡ true
      at-work = works_on_task t.block slot t awake busy ∙ eqb_self t.block

      -- somebody works on it, so it is one of the cluster's
      pub block-there : t.block < length w.uses.items
      block-there = used-there w.config w.client_slots.items w.records w.uses.items uses t.block (works-there w.config w.client_slots.items w.records w.uses.items uses k inside slot slot there t.block at-work)

      module _ (u : BlockUse) (used : u ≡ get_or w.uses.items t.block u) where
        pub some-at-work : 1 ≤ u.at_work
        some-at-work =
            let e = ap (λ (x : BlockUse). x.at_work) (use-there w.config w.client_slots.items w.records w.uses.items uses t.block u block-there used) in
            let l = works-there w.config w.client_slots.items w.records w.uses.items uses k inside slot slot there t.block at-work in
            omega (arith, e, l)

        module _ (new : ClientSlot) (nowhere : (block : ℕ) → works_at block new ≡ false) where
          fewer : (u.at_work - 1) + cond (works_at t.block slot) 1 0 ≡ u.at_work + cond (works_at t.block new) 1 0
          fewer =
              let e = ap {B = ℕ} (λ (b : Bool). cond b 1 0) at-work in
              let f = ap {B = ℕ} (λ (b : Bool). cond b 1 0) (nowhere t.block) in
              let l = some-at-work in
              omega (arith, e, f, l)

          elsewhere : (block : ℕ) → (block ≡ t.block → ⊥) → works_at block new ≡ works_at block slot
          elsewhere block other = nowhere block ∙ sym (works_on_task block slot t awake busy ∙ ne_eqb t.block block (λ same. other (sym same)))

          -- one client less works on it
          pub stops-uses : AreUses w.config (slice_set w.client_slots.items k new) w.records (slice_set w.uses.items t.block (record u { at_work = u.at_work - 1 }))
          stops-uses =
              uses-set w.config w.client_slots.items w.records w.uses.items uses k inside slot new there w.records t.block u (record u { at_work = u.at_work - 1 }) block-there used fewer
              (ap (λ (x : BlockUse). x.given) (use-there w.config w.client_slots.items w.records w.uses.items uses t.block u block-there used)) elsewhere (λ block other. refl)

          -- and its record tells that it has ended
          pub ends-uses : (r next : Told) → slice_get w.records slot.index ≡ Some r → record_of r ≡ open_record k (task_at slot.start t) → block_of next.op ≡ t.block
              → AreUses w.config (slice_set w.client_slots.items k new) (slice_set w.records slot.index next)
              (slice_set w.uses.items t.block (record { at_work = u.at_work - 1; given = greater_stamp (stamp_given next.outcome) u.given }))
          ends-uses r next known opened same =
              uses-set w.config w.client_slots.items w.records w.uses.items uses k inside slot new there (slice_set w.records slot.index next) t.block u
              (record { at_work = u.at_work - 1; given = greater_stamp (stamp_given next.outcome) u.given }) block-there used fewer
              ((λ i. greater_stamp (sym here i) (gave i)) ∙ sym (gives t.block)) elsewhere (λ block other. gives block ∙ ap (λ (o : Option Stamp). greater_stamp o (greatest_given block (map record_of w.records))) (apart block other))
            where
              gives : (block : ℕ) → greatest_given block (map record_of (slice_set w.records slot.index next)) ≡ greater_stamp (given_of block (record_of next)) (greatest_given block (map record_of w.records))
              gives block = greatest-told block slot.index w.records r next known (ap (λ (x : Record). stamp_given x.outcome) opened)

              gave : u.given ≡ greatest_given t.block (map record_of w.records)
              gave = ap (λ (x : BlockUse). x.given) (use-there w.config w.client_slots.items w.records w.uses.items uses t.block u block-there used)

              here : given_of t.block (record_of next) ≡ stamp_given next.outcome
              here = given_here t.block (record_of next) (ap (λ (n : ℕ). eqb n t.block) same ∙ eqb_self t.block)

              apart : (block : ℕ) → (block ≡ t.block → ⊥) → given_of block (record_of next) ≡ None
              apart block other = given_elsewhere block (record_of next) (ap (λ (n : ℕ). eqb n block) same ∙ ne_eqb t.block block (λ e. other (sym e)))

    -- its operation goes on
    pub goes-on-uses : (new : ClientSlot) (u : SeenTask) (r next : Told) → new.crashed ≡ slot.crashed → new.client.seen.task ≡ Some u → u.block ≡ t.block
        → slice_get w.records slot.index ≡ Some r → record_of r ≡ open_record k (task_at slot.start t) → next.outcome ≡ None
        → AreUses w.config (slice_set w.client_slots.items k new) (slice_set w.records slot.index next) w.uses.items
    goes-on-uses new u r next crashed goes same known opened none =
        uses-kept w.config w.client_slots.items w.records w.uses.items uses (slice_set w.client_slots.items k new) (slice_set w.records slot.index next)
        (λ block. count-kept w.config w.client_slots.items w.records w.uses.items uses k inside slot new there block (works block))
        (λ block. greatest-told block slot.index w.records r next known (ap (λ (x : Record). stamp_given x.outcome) opened)
        ∙ ap (λ (o : Option Stamp). greater_stamp o (greatest_given block (map record_of w.records))) (given_none block (record_of next) (ap stamp_given none)))
      where
        works : (block : ℕ) → works_at block new ≡ works_at block slot
        works block = (λ i. not (crashed i) && is_on block (goes i)) ∙ ap (λ (n : ℕ). not slot.crashed && eqb n block) same ∙ ap (λ (o : Option SeenTask). not slot.crashed && is_on block o) (sym busy)

  -- ---- the client crashes

  -- the block that it worked on
  abbrev left_block : Bool → Option SeenTask → Option ℕ
  left_block crashed o = option_map (λ (t : Task). t.block) (unless crashed (started_task slot.start o))

  kept-use : (b : ℕ) → b < length w.uses.items → slice_index_or w.uses.items b unused ≡ get_or w.uses.items b (slice_index_or w.uses.items b unused)
  kept-use b l = sym (get_or_default w.uses.items b (slice_index_or w.uses.items b unused) unused l)

  pub crash-may : IfSome (left_block slot.crashed slot.client.seen.task) (IsAtWork w.uses.items)
  crash-may = at slot.crashed refl slot.client.seen.task refl
    where
      at : (b : Bool) → slot.crashed ≡ b → (o : Option SeenTask) → slot.client.seen.task ≡ o → IfSome (left_block b o) (IsAtWork w.uses.items)
      at true e o f = tt
      at false e None f = tt
      at false e (Some t) f = let l = block-there t f e in (l, some-at-work t f e (slice_index_or w.uses.items t.block unused) (kept-use t.block l))

  pub crash-uses : (new : ClientSlot) → new.crashed ≡ true → AreUses w.config (slice_set w.client_slots.items k new) w.records (one_less w.uses.items (left_block slot.crashed slot.client.seen.task))
  crash-uses new crashed = at slot.crashed refl slot.client.seen.task refl
    where
      nowhere : (block : ℕ) → works_at block new ≡ false
      nowhere block = crashed_works_nowhere block new crashed

      kept : ((block : ℕ) → works_at block slot ≡ false) → AreUses w.config (slice_set w.client_slots.items k new) w.records w.uses.items
      kept before =
          uses-kept w.config w.client_slots.items w.records w.uses.items uses (slice_set w.client_slots.items k new) w.records
          (λ block. count-kept w.config w.client_slots.items w.records w.uses.items uses k inside slot new there block (nowhere block ∙ sym (before block))) (λ block. refl)

      at : (b : Bool) → slot.crashed ≡ b → (o : Option SeenTask) → slot.client.seen.task ≡ o → AreUses w.config (slice_set w.client_slots.items k new) w.records (one_less w.uses.items (left_block b o))
      at true e o f = kept (λ block. crashed_works_nowhere block slot e)
      at false e None f = kept (λ block. idle_works_nowhere block slot f)
      at false e (Some t) f = stops-uses t f e (slice_index_or w.uses.items t.block unused) (kept-use t.block (block-there t f e)) new nowhere

  -- ---- the client hears what makes its operation go on or end

  module _ (hearer : ClientView) (same : IsSame (the_view w) k hearer) (may : Becomes w.config w.place ((world_in (the_view w)).task k) hearer.seen.task) where
    abbrev task : SeenTask
    task = (task-there w k inside slot there good hearer same None None None may).0

    busy : slot.client.seen.task ≡ Some task
    busy = (task-there w k inside slot there good hearer same None None None may).1

    known : (r : Told) × (slice_get w.records slot.index ≡ Some r) × (record_of r ≡ open_record k (task_at slot.start task))
    known = record-there w k inside slot there good task busy

    pub go-on-uses : (u : SeenTask) → hearer.seen.task ≡ Some u → (stamp : Option Stamp) (records : List Told)
        → ((r : Told) → slice_get w.records slot.index ≡ Some r → records ≡ slice_set w.records slot.index (record r { end = None; stamp = stamp; outcome = None }))
        → AreUses w.config (slice_set w.client_slots.items k (record slot { client = hearer })) records w.uses.items
    go-on-uses u goes stamp records are =
        rw (are known.0 known.1)
        (goes-on-uses task busy (record slot { client = hearer }) u known.0 (record known.0 { end = None; stamp = stamp; outcome = None }) refl goes next.block known.1 known.2 refl)
      where
        next : MayGoOn w.config w.place (task_at slot.start task) u
        next =
            subst (λ (o : Option SeenTask). Becomes w.config w.place (Some (task_at slot.start task)) o) goes
            (subst (λ (o : Option Task). Becomes w.config w.place o hearer.seen.task) (task-is w k inside slot there good hearer same None None None may) may)

    module _ (idle : hearer.seen.task ≡ None) (awake : slot.crashed ≡ false) (b : ℕ) (block : (r : Told) → slice_get w.records slot.index ≡ Some r → b ≡ block_of r.op) where
      own : b ≡ task.block
      own = block known.0 known.1 ∙ ap (λ (x : Record). x.block) known.2

      pub end-there : b < length w.uses.items
      end-there = let l = block-there task busy awake in let e = own in omega (arith, l, e)

      module _ (u : BlockUse) (used : u ≡ get_or w.uses.items b u) where
        used-own : u ≡ get_or w.uses.items task.block u
        used-own = used ∙ ap (λ (j : ℕ). get_or w.uses.items j u) own

        pub end-some : 1 ≤ u.at_work
        end-some = some-at-work task busy awake u used-own

        pub end-uses : (stamp : Option Stamp) (outcome : Outcome) (records : List Told)
            → ((r : Told) → slice_get w.records slot.index ≡ Some r → records ≡ slice_set w.records slot.index (record r { end = Some w.place; stamp = stamp; outcome = Some outcome }))
            → AreUses w.config (slice_set w.client_slots.items k (record slot { client = hearer })) records
            (slice_set w.uses.items b (record { at_work = u.at_work - 1; given = greater_stamp (stamp_given (Some outcome)) u.given }))
        end-uses stamp outcome records are =
            rw (are known.0 known.1, own)
            (ends-uses task busy awake u used-own (record slot { client = hearer }) (λ block. idle_works_nowhere block (record slot { client = hearer }) idle) known.0
            (record known.0 { end = Some w.place; stamp = stamp; outcome = Some outcome }) known.1 known.2 (ap (λ (x : Record). x.block) known.2))

-- a client that works on a block may leave it
pub may-leave : (w : Inside) → IsWorld w.config w.node_slots.items w.client_slots.items w.records w.place → AreUses w.config w.client_slots.items w.records w.uses.items → (k : ℕ) → k ≤ 1000
    → IfSome (option_map (λ (t : Task). t.block) (under_way (world_in (the_view w)) k)) (IsAtWork w.uses.items)
may-leave w good uses k l = elim (slice_get_cases w.client_slots.items k).1 [
  | inl h ↦ subst (λ (o : Option ℕ). IfSome o (IsAtWork w.uses.items)) (sym (left-is w k h.1 h.0 (sym h.3) good uses)) (crash-may w k h.1 h.0 (sym h.3) good uses)
  | inr h ↦ absurd (let e = good.clients in let q = h.0 in omega (arith, e, q, l))
]

-- how the record of an operation that goes on stands
pub stands : (o : Option SeenTask) (stamp : Option Stamp) → stamp ≡ chosen_of o → IfSome o (λ u. (◌≡◌ {A = Option ℕ} None None) × (stamp ≡ chosen_stamp u.work u.stage) × (◌≡◌ {A = Option Outcome} None None))
stands None stamp e = tt
stands (Some u) stamp e = (refl, e, refl)

pub ended : (o : Option SeenTask) (end : Option ℕ) (stamp : Option Stamp) (outcome : Option Outcome) → o ≡ None → IfSome o (λ u. (end ≡ None) × (stamp ≡ chosen_stamp u.work u.stage) × (outcome ≡ None))
ended None end stamp outcome e = tt
ended (Some u) end stamp outcome e = absurd (cc)
