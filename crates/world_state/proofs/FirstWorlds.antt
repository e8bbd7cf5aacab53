-- The world before anything took place.
use Rattle.std.proofs.Common.{◌≡◌, ℕ, ◌<◌, ◌≤◌, Bool, false, List, [], ◌∷◌, ◌++◌, length, map, get_or, replicate, refl, sym, ◌∙◌, ap, subst, inl, inr, arith, eqb}
use Rattle.std.specs.Prelude.{slice_get, slice_index_or}
use Rattle.std.specs.List.{All}
use Rattle.std.specs.declared.option.Option.TheVariants.{Some}
use Rattle.std.proofs.lemmas.Bool.Decides.{eqb_tells}
use Rattle.std.proofs.lemmas.List.{length-map, get_or-map, get_or_past, get_or-replicate, length-replicate}
use Rattle.std.proofs.lemmas.List.Folds.{list_any_none}
use Rattle.std.proofs.lemmas.Option.{slice_get_cases}
use Rattle.quorum_rules.specs.Limits.{Numbers, IsValid}
use Rattle.wire_forms.specs.Liars.{Liars, has_number, AreLiars, IsClientNumber}
use Rattle.run_words.specs.declared.record.Record.{Record as Told}
use Rattle.protocol.specs.Messages.{Version}
use Rattle.protocol.specs.Report.{Ascend}
use Rattle.protocol.specs.Nodes.{first_version}
use Rattle.protocol.specs.Instance.{setting, setting_of}
use Rattle.protocol.specs.World.{start_world}
use Rattle.protocol.specs.Seen.{new_client, client_at, started_task, record_of, accepted_of}
use Rattle.protocol.proofs.lemmas.Seeing.{versions-new}
use Rattle.world_state.specs.declared.node_slot.NodeSlot.{NodeSlot}
use Rattle.world_state.specs.declared.client_slot.ClientSlot.{ClientSlot}
use Rattle.world_state.specs.declared.state.State.TheInside.{Inside}
use Rattle.world_state.specs.contracts.state.State.{the_view}
use Rattle.world_state.specs.Worlds.{setting_in, world_in}
use Rattle.world_state.specs.Slots.{IsWorld, IsClientSlot}
use Rattle.world_state.specs.declared.block_use.BlockUse.{BlockUse}
use Rattle.world_state.specs.BlockUses.{unused, AreUses}
use Rattle.world_state.proofs.BlockUses.{uses_begin}
use Rattle.node_core.specs.Seen.{SeenNode, new_node}
use Rattle.world_state.specs.Beginnings.{new_client_slot, IsNewNodeSlot, AreNewNodeSlots, AreNewClientSlots}
use Rattle.world_state.proofs.ListItems.{slice_get-push_cases}

-- ---- one more that is new

pub node_slots-push : (c : Numbers) (lies : ℕ → Bool) (node_slots : List NodeSlot) (h : NodeSlot) → AreNewNodeSlots c lies node_slots → IsNewNodeSlot c lies (length node_slots) h → AreNewNodeSlots c lies (node_slots ++ h ∷ [])
node_slots-push c lies node_slots h are new i x e = elim (slice_get-push_cases node_slots h i x e) [ inl f ↦ rw (f.0, f.1) new | inr f ↦ are i x f ]

pub client_slots-push : (c : Numbers) (lies : ℕ → Bool) (client_slots : List ClientSlot) (s : ClientSlot) → AreNewClientSlots c lies client_slots → s ≡ new_client_slot c lies (length client_slots) → AreNewClientSlots c lies (client_slots ++ s ∷ [])
client_slots-push c lies client_slots s are new i x e = elim (slice_get-push_cases client_slots s i x e) [ inl f ↦ f.1 ∙ new ∙ ap (new_client_slot c lies) (sym f.0) | inr f ↦ are i x f ]

-- ---- a table that is what a function says, and beyond its end too

module _ {A B : Type 0} (said : ℕ → B) (f : A → B) (d : B) (xs : List A) (are : (i : ℕ) (x : A) → slice_get xs i ≡ Some x → f x ≡ said i) (beyond : (i : ℕ) → length xs ≤ i → said i ≡ d) where
  pub table : (i : ℕ) → slice_index_or (map f xs) i d ≡ said i
  table i = elim ((slice_get_cases xs i).1) [
    | inl h ↦ get_or-map f xs i h.0 d h.1 ∙ ap f h.3 ∙ are i h.0 h.2
    | inr h ↦ get_or_past (map f xs) i d (let e = length-map xs f in let l = h.0 in omega (arith, e, l)) ∙ sym (beyond i h.0)
  ]

-- a number that none of them may be isn't one of them
absent : (P : ℕ → Type 0) (xs : List ℕ) → All P xs → (i : ℕ) → (P i → ⊥) → has_number xs i ≡ false
absent P xs h i other =
    list_any_none (λ x. eqb i x) xs
    (λ k d l. elim (eqb_tells i (get_or xs k d)) [ inl e ↦ absurd (other (subst P (sym e.1) (h k d l))) | inr e ↦ e.0 ])

module _ (w : Inside) (liars : Liars) (node_slots : AreNewNodeSlots w.config (has_number liars.nodes) w.node_slots.items) (client_slots : AreNewClientSlots w.config (has_number liars.clients) w.client_slots.items) (nodes : length w.node_slots.items ≡ w.config.n)
    (clients : length w.client_slots.items ≡ 1001) where
  pub liars-begin : AreLiars w.config liars → setting_in (the_view w) ≡ setting_of w.config (has_number liars.nodes) (has_number liars.clients)
  liars-begin lie = λ j. setting_of w.config (λ i. node i j) (λ k. client k j)
    where
      node : (i : ℕ) → slice_index_or (map (λ (h : NodeSlot). h.lying) w.node_slots.items) i false ≡ has_number liars.nodes i
      node = table (has_number liars.nodes) (λ (h : NodeSlot). h.lying) false w.node_slots.items (λ i h e. (node_slots i h e).lying)
          (λ i l. absent (λ x. x < w.config.n) liars.nodes lie.nodes i (λ m. omega (arith, l, m, nodes)))

      client : (k : ℕ) → slice_index_or (map (λ (x : ClientSlot). x.lying) w.client_slots.items) k false ≡ has_number liars.clients k
      client = table (has_number liars.clients) (λ (x : ClientSlot). x.lying) false w.client_slots.items (λ k x e. ap (λ (y : ClientSlot). y.lying) (client_slots k x e))
          (λ k l. absent IsClientNumber liars.clients lie.clients k (λ m. let q = m.1 in omega (arith, l, q, clients)))

  pub world-begin : w.pool ≡ [] → w.accepted ≡ [] → w.records ≡ [] → w.place ≡ 0 → world_in (the_view w) ≡ start_world (setting_in (the_view w))
  world-begin pool accepted records place = λ j. record {
    pool = pool j;
    versions = versions-new (setting_in (the_view w)) (the_view w).seen rows j;
    accepted = map accepted_of (accepted j);
    task = λ k. started_task (slice_index_or (map (λ (x : ClientSlot). x.start) w.client_slots.items) k 0) (client k j).task;
    life = λ k. (client k j).life;
    started = λ k. (client k j).started;
    node_crashed = λ i. table (λ i. false) (λ (h : NodeSlot). h.crashed) false w.node_slots.items (λ i h e. (node_slots i h e).awake) (λ i l. refl) i j;
    client_crashed = λ k. table (λ k. false) (λ (x : ClientSlot). x.crashed) false w.client_slots.items (λ k x e. ap (λ (y : ClientSlot). y.crashed) (client_slots k x e)) (λ k l. refl) k j;
    records = map record_of (records j);
    place = place j;
  }
    where
      client : (k : ℕ) → client_at (the_view w).seen k ≡ new_client
      client = table (λ k. new_client) (λ (x : ClientSlot). x.client.seen) new_client w.client_slots.items (λ k x e. ap (λ (y : ClientSlot). y.client.seen) (client_slots k x e)) (λ k l. refl)

      row : (i : ℕ) → i < length w.node_slots.items → slice_index_or (map (λ (h : NodeSlot). h.stored.node.blocks) w.node_slots.items) i [] ≡ (new_node w.config i).blocks
      row i l = elim ((slice_get_cases w.node_slots.items i).1) [
        | inl h ↦ get_or-map (λ (x : NodeSlot). x.stored.node.blocks) w.node_slots.items i h.0 [] l ∙ ap (λ (x : NodeSlot). x.stored.node.blocks) h.3 ∙ ap (λ (a : SeenNode). a.blocks) (node_slots i h.0 h.2).node
        | inr h ↦ absurd (let q = h.0 in omega (arith, l, q))
      ]

      rows : (i block : ℕ) → i < length (the_view w).seen.versions → block < length (slice_index_or (the_view w).seen.versions i [])
          → slice_index_or (slice_index_or (the_view w).seen.versions i []) block (first_version (setting_in (the_view w)) i ∷ []) ≡ first_version (setting_in (the_view w)) i ∷ []
      rows i block l m =
          let is = row i (let e = length-map w.node_slots.items (λ (h : NodeSlot). h.stored.node.blocks) in omega (arith, l, e)) in
          ap (λ (r : List (List Version)). slice_index_or r block (first_version (setting_in (the_view w)) i ∷ [])) is
          ∙ get_or-replicate w.config.blocks block (first_version (setting w.config) i ∷ []) (first_version (setting_in (the_view w)) i ∷ [])
          (let e = length-replicate w.config.blocks (first_version (setting w.config) i ∷ []) in let n = ap (λ (r : List (List Version)). length r) is in omega (arith, m, e, n))

  pub kept-begin : IsValid w.config → w.records ≡ [] → IsWorld w.config w.node_slots.items w.client_slots.items w.records w.place
  kept-begin valid records = record {
    valid = valid;
    nodes = nodes;
    node_slot = λ i h e.
        let new = (node_slots i h e).node in
        record {
          config = ap (λ (a : SeenNode). a.config) new;
          number = ap (λ (a : SeenNode). a.number) new;
          blocks = ap (λ (a : SeenNode). length a.blocks) new ∙ length-replicate w.config.blocks (first_version (setting w.config) i ∷ []);
        };
    clients = clients;
    client_slot = λ k x e. subst (IsClientSlot w.config (map record_of w.records) w.place k) (sym (client_slots k x e)) (record { config = refl; id = refl; task = tt });
    ascend = subst (λ (rs : List Told). Ascend (map (λ r. r.start) rs)) (sym records) tt;
    placed = λ k r e. absurd (let f : slice_get {X = Told} [] k ≡ Some r = subst (λ (rs : List Told). slice_get rs k ≡ Some r) records e in cc);
  }

  pub uses-begin : w.records ≡ [] → w.uses.items ≡ replicate w.config.blocks unused → AreUses w.config w.client_slots.items w.records w.uses.items
  uses-begin records uses =
      subst (λ (us : List BlockUse). AreUses w.config w.client_slots.items w.records us) (sym uses)
      (subst (λ (rs : List Told). AreUses w.config w.client_slots.items rs (replicate w.config.blocks unused)) (sym records)
      (uses_begin w.config w.client_slots.items (λ k x e. ap (λ (s : ClientSlot). s.client.seen.task) (client_slots k x e))))
