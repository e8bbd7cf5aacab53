-- A slot's node, as the world of the definitions has it, and that world when the slot is another one.
use Rattle.std.proofs.Common.{◌≡◌, ◌⊎◌, ℕ, ◌<◌, false, ltb, List, [], ◌∷◌, length, map, get_or, Option, refl, sym, ◌∙◌, ap, inl, inr, arith}
use Rattle.std.specs.Prelude.{slice_get, slice_set, slice_index_or, OnErr, Result, Ok, Err}
use Rattle.std.specs.declared.option.Option.TheVariants.{None, Some}
use Rattle.std.specs.Vec.{with_item}
use Rattle.std.proofs.Math.Seq.{map-set_same}
use Rattle.std.proofs.lemmas.Bool.{cases_lt}
use Rattle.std.proofs.lemmas.Bool.Decides.{nat_tests}
use Rattle.std.proofs.lemmas.List.{length-map, length-set, map-set, map-append, get_or-map, get_or_default, set-get_or}
use Rattle.std.proofs.lemmas.Option.{slice_get_read}
use Rattle.quorum_rules.specs.Limits.{Numbers}
use Rattle.run_words.specs.declared.record.Record.{Record as Told}
use Rattle.run_words.specs.declared.record.Accepted.{Accepted}
use Rattle.protocol.specs.Count.{update, one_more}
use Rattle.protocol.specs.Messages.{Version, Ask}
use Rattle.protocol.specs.Nodes.{first_version, reply, after, accepts}
use Rattle.protocol.specs.Setting.{Setting}
use Rattle.protocol.specs.World.{accepted_at}
use Rattle.protocol.specs.Seen.{world_of, accepted_of}
use Rattle.protocol.specs.Instance.{setting}
use Rattle.protocol.proofs.lemmas.Seeing.{versions-set, node_crashed-set}
use Rattle.node_core.specs.Seen.{SeenNode, versions_in, with_versions, reply_of, accepts_of, after_of}
use Rattle.world_state.specs.declared.node_slot.NodeSlot.{NodeSlot}
use Rattle.world_state.specs.declared.client_slot.ClientSlot.{ClientSlot}
use Rattle.world_state.specs.declared.state.State.TheInside.{Inside}
use Rattle.world_state.specs.contracts.state.State.{the_view}
use Rattle.world_state.specs.Worlds.{WorldView, setting_in, world_in}
use Rattle.world_state.specs.Slots.{IsWorld, IsNodeSlot}
use Rattle.world_state.specs.Acceptances.{told_of}
use Rattle.world_state.proofs.ListItems.{slice_get-set_cases}
use Rattle.world_state.proofs.ClientSlots.{update-known}

-- the slot of number i is another one
pub with_node_slot : (c : Numbers) (node_slots : List NodeSlot) (client_slots : List ClientSlot) (records : List Told) (p : ℕ) (w : IsWorld c node_slots client_slots records p) (i : ℕ) (h : NodeSlot) → IsNodeSlot c i h → IsWorld c (slice_set node_slots i h) client_slots records p
with_node_slot c node_slots client_slots records p w i h is = record {
  valid = w.valid;
  nodes = length-set node_slots i h ∙ w.nodes;
  node_slot = λ k x e. elim (slice_get-set_cases node_slots i h k x e) [ inl f ↦ rw (f.0, f.1) is | inr f ↦ w.node_slot k x f.1 ];
  clients = w.clients;
  client_slot = w.client_slot;
  ascend = w.ascend;
  placed = w.placed;
}

-- a node with other versions of one block
pub node_slots_versions : (c : Numbers) (i : ℕ) (h : NodeSlot) → IsNodeSlot c i h → (new : NodeSlot) (block : ℕ) (vs : List Version) → new.stored.node ≡ with_versions h.stored.node block vs → IsNodeSlot c i new
node_slots_versions c i h is new block vs e = record {
  config = ap (λ (a : SeenNode). a.config) e ∙ is.config;
  number = ap (λ (a : SeenNode). a.number) e ∙ is.number;
  blocks = ap (λ (a : SeenNode). length a.blocks) e ∙ length-set h.stored.node.blocks block vs ∙ is.blocks;
}

-- a slot whose node keeps what it kept
pub node_slots_same : (c : Numbers) (i : ℕ) (h : NodeSlot) → IsNodeSlot c i h → (new : NodeSlot) → new.stored.node ≡ h.stored.node → IsNodeSlot c i new
node_slots_same c i h is new e = record {
  config = ap (λ (a : SeenNode). a.config) e ∙ is.config;
  number = ap (λ (a : SeenNode). a.number) e ∙ is.number;
  blocks = ap (λ (a : SeenNode). length a.blocks) e ∙ is.blocks;
}

-- what holds anyway holds after an error
pub held_after_err : {T E : Type 0} (r : Result T E) (P : Type 0) → P → OnErr r P
held_after_err (Ok x) P h = tt
held_after_err (Err e) P h = h

-- there is a slot of each node
pub within : (w : Inside) (v : WorldView) (i node : ℕ) → IsWorld w.config w.node_slots.items w.client_slots.items w.records w.place → the_view w ≡ v → i ≡ node → node < v.config.n → i < length w.node_slots.items
within w v i node h e f l = let n = h.nodes in let m = ap (λ (x : WorldView). x.config.n) e in omega (arith, n, m, f, l)

-- acceptances, with one more as it is told
pub accepted-more : (s : Setting) (xs : List Accepted) (i block : ℕ) (o : Option Version) → map accepted_of (one_more xs (told_of i block o)) ≡ one_more (map accepted_of xs) (accepted_at s i block o)
accepted-more s xs i block None = refl
accepted-more s xs i block (Some v) = map-append accepted_of xs (record { node = i; block = block; stamp = v.stamp } ∷ [])

module _ (w : Inside) (i : ℕ) (inside : i < length w.node_slots.items) (old : NodeSlot) (there : old ≡ get_or w.node_slots.items i old) where
  pub node_slot-there : slice_get w.node_slots.items i ≡ Some old
  node_slot-there = slice_get_read w.node_slots.items (length w.node_slots.items) i old refl inside there

  -- who lies stays, where the slot does
  pub slot-lying : (h : NodeSlot) → h.lying ≡ old.lying → map (λ (x : NodeSlot). x.lying) (slice_set w.node_slots.items i h) ≡ map (λ (x : NodeSlot). x.lying) w.node_slots.items
  slot-lying h e = map-set_same (λ (x : NodeSlot). x.lying) w.node_slots.items i h old (e ∙ ap (λ (x : NodeSlot). x.lying) there)

  -- a node that keeps what it kept
  pub world-crashed : (h : NodeSlot) → h.stored.node ≡ old.stored.node → world_in (the_view (record w { node_slots = with_item w.node_slots i h })) ≡ record (world_in (the_view w)) { node_crashed = update (world_in (the_view w)).node_crashed i h.crashed }
  world-crashed h e =
      let same = map-set_same (λ (x : NodeSlot). x.stored.node.blocks) w.node_slots.items i h old (ap (λ (a : SeenNode). a.blocks) e ∙ ap (λ (x : NodeSlot). x.stored.node.blocks) there) in
      let set = map-set (λ (x : NodeSlot). x.crashed) w.node_slots.items i h in
      let all = node_crashed-set (setting_in (the_view w)) (the_view w).seen i h.crashed (let l = length-map w.node_slots.items (λ (x : NodeSlot). x.crashed) in omega (arith, l, inside)) in
      (λ j. world_of (setting_in (the_view w)) (record (the_view w).seen { versions = same j; node_crashed = set j }))
      ∙ (λ j. record (world_in (the_view w)) { node_crashed = all j })

  -- what the world tells of a node
  pub row : slice_index_or (the_view w).seen.versions i [] ≡ old.stored.node.blocks
  row = get_or-map (λ (x : NodeSlot). x.stored.node.blocks) w.node_slots.items i old [] inside ∙ ap (λ (x : NodeSlot). x.stored.node.blocks) (sym there)

  -- what the world has of a block that there is
  pub versions-there : (block : ℕ) → block < length old.stored.node.blocks → (world_in (the_view w)).versions i block ≡ versions_in old.stored.node block
  versions-there block l =
      ap (λ (bs : List (List Version)). slice_index_or bs block (first_version (setting_in (the_view w)) i ∷ [])) row
      ∙ get_or_default old.stored.node.blocks block (first_version (setting_in (the_view w)) i ∷ []) [] l

  module _ (h : NodeSlot) (crashed : h.crashed ≡ old.crashed) where
    same-crashed : map (λ (x : NodeSlot). x.crashed) (slice_set w.node_slots.items i h) ≡ map (λ (x : NodeSlot). x.crashed) w.node_slots.items
    same-crashed = map-set_same (λ (x : NodeSlot). x.crashed) w.node_slots.items i h old (crashed ∙ ap (λ (x : NodeSlot). x.crashed) there)

    -- a node with other versions of a block that there is
    pub world-versions : (block : ℕ) (vs : List Version) → block < length old.stored.node.blocks → h.stored.node.blocks ≡ slice_set old.stored.node.blocks block vs
        → world_in (the_view (record w { node_slots = with_item w.node_slots i h })) ≡ record (world_in (the_view w)) { versions = update (world_in (the_view w)).versions i (update ((world_in (the_view w)).versions i) block vs) }
    world-versions block vs l e =
        let set = map-set (λ (x : NodeSlot). x.stored.node.blocks) w.node_slots.items i h in
        let other = e ∙ ap (λ (bs : List (List Version)). slice_set bs block vs) (sym row) in
        let all = versions-set (setting_in (the_view w)) (the_view w).seen i block vs
        (let m = length-map w.node_slots.items (λ (x : NodeSlot). x.stored.node.blocks) in omega (arith, m, inside)) (rw row l) in
        (λ j. world_of (setting_in (the_view w)) (record (the_view w).seen { versions = set j; node_crashed = same-crashed j }))
        ∙ (λ j. world_of (setting_in (the_view w)) (record (the_view w).seen { versions = slice_set (the_view w).seen.versions i (other j) }))
        ∙ (λ j. record (world_in (the_view w)) { versions = all j })

    -- a slot that stands as before, and whose node keeps what it kept
    pub view-same : h.lying ≡ old.lying → h.stored.node ≡ old.stored.node → the_view (record w { node_slots = with_item w.node_slots i h }) ≡ the_view w
    view-same lying e =
        let same = map-set_same (λ (x : NodeSlot). x.stored.node.blocks) w.node_slots.items i h old (ap (λ (a : SeenNode). a.blocks) e ∙ ap (λ (x : NodeSlot). x.stored.node.blocks) there) in
        (λ j. record (the_view w) { lying_nodes = slot-lying h lying j; seen = record (the_view w).seen { versions = same j; node_crashed = same-crashed j } })

    -- a node that keeps what it kept
    pub world-same : h.stored.node.blocks ≡ old.stored.node.blocks → world_in (the_view (record w { node_slots = with_item w.node_slots i h })) ≡ world_in (the_view w)
    world-same e =
        let same = map-set_same (λ (x : NodeSlot). x.stored.node.blocks) w.node_slots.items i h old (e ∙ ap (λ (x : NodeSlot). x.stored.node.blocks) there) in
        (λ j. world_of (setting_in (the_view w)) (record (the_view w).seen { versions = same j; node_crashed = same-crashed j }))

  module _ (is : IsNodeSlot w.config i old) (ask : Ask) where
    abbrev kept : List Version
    kept = (world_in (the_view w)).versions i ask.block

    there_or_not : (ask.block < length old.stored.node.blocks) ⊎ (ltb ask.block w.config.blocks ≡ false)
    there_or_not = elim (cases_lt ask.block w.config.blocks) [ inl l ↦ inl (let e = is.blocks in omega (arith, e, l)) | inr h ↦ inr (grind (arith, nat_tests)) ]

    -- what the node answers
    pub replies : reply_of old.stored.node ask ≡ reply (setting_in (the_view w)) i kept ask
    replies = own ∙ elim there_or_not [ inl l ↦ ap (λ (vs : List Version). reply (setting_in (the_view w)) i vs ask) (sym (versions-there ask.block l)) | inr h ↦ rw h refl ]
      where
        own : reply_of old.stored.node ask ≡ reply (setting_in (the_view w)) i (versions_in old.stored.node ask.block) ask
        own j = reply (setting (is.config j)) (is.number j) (versions_in old.stored.node ask.block) ask

    -- what it accepts
    own_accepts : accepts_of old.stored.node ask ≡ accepts (setting_in (the_view w)) i (versions_in old.stored.node ask.block) ask
    own_accepts j = accepts (setting (is.config j)) (is.number j) (versions_in old.stored.node ask.block) ask

    pub accepts-node_slot : accepts_of old.stored.node ask ≡ accepts (setting_in (the_view w)) i kept ask
    accepts-node_slot = own_accepts ∙ elim there_or_not [ inl l ↦ ap (λ (vs : List Version). accepts (setting_in (the_view w)) i vs ask) (sym (versions-there ask.block l)) | inr h ↦ rw h refl ]

    -- the node has handled the ask
    pub world-handled : (h : NodeSlot) → h.crashed ≡ old.crashed → h.stored.node ≡ with_versions old.stored.node ask.block (after_of old.stored.node ask)
        → world_in (the_view (record w { node_slots = with_item w.node_slots i h }))
        ≡ record (world_in (the_view w)) { versions = update (world_in (the_view w)).versions i (update ((world_in (the_view w)).versions i) ask.block (after (setting_in (the_view w)) i kept ask)) }
    world-handled h crashed e = elim there_or_not [
      | inl l ↦
          world-versions h crashed ask.block (after_of old.stored.node ask) l (ap (λ (a : SeenNode). a.blocks) e)
          ∙ ap (λ (vs : List Version). record (world_in (the_view w)) { versions = update (world_in (the_view w)).versions i (update ((world_in (the_view w)).versions i) ask.block vs) })
          (λ j. one_more (sym (versions-there ask.block l) j) (accepts-node_slot j))
      | inr past ↦
          (let none : accepts_of old.stored.node ask ≡ None = own_accepts ∙ rw past refl in
          let nothing : accepts (setting_in (the_view w)) i kept ask ≡ None = rw past refl in
          let same : h.stored.node.blocks ≡ old.stored.node.blocks = ap (λ (a : SeenNode). a.blocks) e ∙ ap (λ (o : Option Version). slice_set old.stored.node.blocks ask.block (one_more (versions_in old.stored.node ask.block) o)) none ∙ set-get_or old.stored.node.blocks ask.block [] in
          world-same h crashed same
          ∙ ap (λ (f : ℕ → ℕ → List Version). record (world_in (the_view w)) { versions = f })
          (sym (update-known (world_in (the_view w)).versions i _ (update-known ((world_in (the_view w)).versions i) ask.block _ (ap (one_more kept) nothing)))))
    ]
