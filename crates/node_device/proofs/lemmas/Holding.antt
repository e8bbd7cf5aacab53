-- How an operation and the prune after it change what the nodes hold.
use Rattle.std.proofs.Common.{◌≡◌, ◌≢◌, ℕ, zero, suc, ◌+◌, ◌-◌, ◌<◌, ◌≤◌, true, List, [], ◌∷◌, ◌++◌, length, map, replicate, refl, sym, ◌∙◌, ap, ◌⊎◌, inl, inr, arith, ltb}
use Rattle.std.specs.declared.option.Option.TheVariants.{None}
use Rattle.std.specs.List.{range_with_len, slice_set}
use Rattle.std.proofs.lemmas.Bool.{cases_eq}
use Rattle.std.proofs.lemmas.Bool.Decides.{nat_tests}
use Rattle.std.proofs.lemmas.List.{ext_get_or, get_or-map, get_or-replicate, length-map, length-replicate, length-set, get_or-set_same, get_or-set_other, set-get_or}
use Rattle.std.proofs.lemmas.List.FromFn.{get_or-map-range_with_len, length-map-range_with_len}
use Rattle.stamp_order.specs.declared.Stamp.{Stamp}
use Rattle.stamp_order.specs.declared.Bound.TheVariants.{All as Every}
use Rattle.quorum_rules.specs.Limits.{Numbers, IsValid as IsValidConfig, wait_of}
use Rattle.wire_forms.specs.declared.Request.TheVariants.{Time, Read, Write}
use Rattle.wire_forms.specs.declared.Reply.TheVariants.{TimeIs, Found, Ack}
use Rattle.protocol.specs.Messages.{IsBytes, Version, Request}
use Rattle.protocol.specs.Count.{one_more}
use Rattle.protocol.specs.Setting.{Setting, IsValid, IsBlock, zeros, verifier_of}
use Rattle.protocol.specs.Nodes.{first_version, reply_in, added_in}
use Rattle.protocol.specs.Instance.{setting}
use Rattle.protocol.specs.Operations.Stage.{Times, Versions, Storing}
use Rattle.protocol.specs.Seen.{SeenTask}
use Rattle.node_core.specs.Seen.{SeenNode, versions_in, with_versions, new_node, reply_of, after_of}
use Rattle.node_device.specs.Held.{Held, the_client, unwritten, node_at, held_at, stamp_of, version_of, kept_of, rewritten, IsHeld, held_in, held_of}
use Rattle.node_device.specs.Phases.{answer_of, HaveAnswered}
use Rattle.node_device.specs.Devices.{pruned_at}
use Rattle.node_device.proofs.Keeping.{greatest_is, time_is, prune_same, not_refused, is_added, prune_next}
use Rattle.node_device.proofs.Deciding.{good_setting, decodes_held}

pub zero_bytes : (n : ℕ) → IsBytes (replicate n 0)
zero_bytes zero = tt
zero_bytes (suc n) = (omega arith, zero_bytes n)

module _ (c : Numbers) (config : IsValidConfig c) where
  abbrev s : Setting
  s = setting c

  good : IsValid s
  good = good_setting c config

  pub wait_bounds : (1 ≤ wait_of c) × (wait_of c ≤ c.n)
  wait_bounds = (omega (arith, config.low, config.high), omega arith)

  -- the blocks by what the nodes keep are those that they hold
  pub held_is : (nodes : List SeenNode) (held : List Held) → IsHeld c nodes held → held_of c nodes ≡ held
  held_is nodes held is =
      ext_get_or (unwritten c) _ _ (length-map-range_with_len (held_in c nodes) 0 c.blocks ∙ sym is.blocks_count)
      (λ k l. (let m : k < c.blocks = omega (arith, l, length-map-range_with_len (held_in c nodes) 0 c.blocks) in get_or-map-range_with_len (held_in c nodes) 0 c.blocks k k (unwritten c) m (omega arith) ∙ each k m))
    where
      each : (k : ℕ) → k < c.blocks → held_in c nodes k ≡ held_at c held k
      each k m =
          let h = held_at c held k in
          let i : 0 < c.n = omega (arith, config.nodes.0) in
          let w : 0 < wait_of c = omega (arith, wait_bounds) in
          rw (decodes_held c config nodes k h (is.blocks k m) (is.unwritten k m) (λ i l. is.kept i k l m), is.kept 0 k w m, time_is c good 0 i h (is.blocks k m) (is.unwritten k m)) refl

  -- new nodes hold blocks that were never written
  pub new_held : (nodes : List SeenNode) → nodes ≡ map (new_node c) (range_with_len 0 c.n) → IsHeld c nodes (replicate c.blocks (unwritten c))
  new_held nodes e = record {
    nodes_count = rw e (length-map-range_with_len (new_node c) 0 c.n);
    blocks_count = length-replicate c.blocks (unwritten c);
    own = λ i l. rw (node_is i l) (record { config = refl; number = refl; blocks = length-replicate c.blocks (first_version s i ∷ []) });
    kept = λ i k l m. (let n : i < c.n = omega (arith, l) in rw (node_is i n, block_is k m) (get_or-replicate c.blocks k (first_version s i ∷ []) [] m));
    blocks = λ k m. rw (block_is k m) (zeros_block);
    unwritten = λ k m e. rw (block_is k m) refl;
  }
    where
      node_is : (i : ℕ) → i < c.n → node_at c nodes i ≡ new_node c i
      node_is i l = rw e (get_or-map-range_with_len (new_node c) 0 c.n i i _ l (omega arith))

      block_is : (k : ℕ) → k < c.blocks → held_at c (replicate c.blocks (unwritten c)) k ≡ unwritten c
      block_is k m = get_or-replicate c.blocks k (unwritten c) (unwritten c) m

      zeros_block : IsBlock s (zeros s)
      zeros_block = (length-replicate c.size 0, zero_bytes c.size)

  module _ (nodes : List SeenNode) (held : List Held) (is : IsHeld c nodes held) (k : ℕ) (there : k < c.blocks) where
    abbrev h : Held
    h = held_at c held k

    size : IsBlock s h.value
    size = is.blocks k there

    un : h.time ≡ 0 → h.value ≡ zeros s
    un = is.unwritten k there

    inside : (i : ℕ) → i < wait_of c → i < c.n
    inside i l = omega (arith, l)

    -- what a node that is asked answers and keeps
    reply_is : (i : ℕ) → i < wait_of c → (request : Request) → reply_of (node_at c nodes i) (record { block = k; request = request }) ≡ reply_in s i (kept_of c i h) request
    reply_is i l request =
        let o = is.own i (inside i l) in
        let below : ltb k c.blocks ≡ true = grind (arith, nat_tests) in
        rw (is.kept i k l there, o.config, o.number, below) refl

    after_is : (i : ℕ) → i < wait_of c → (request : Request) → after_of (node_at c nodes i) (record { block = k; request = request }) ≡ one_more (kept_of c i h) (added_in s i (kept_of c i h) request)
    after_is i l request =
        let o = is.own i (inside i l) in
        let below : ltb k c.blocks ≡ true = grind (arith, nat_tests) in
        rw (is.kept i k l there, o.config, o.number, below) refl

    pub time_told : (i : ℕ) → i < wait_of c → reply_of (node_at c nodes i) (record { block = k; request = Time }) ≡ TimeIs h.time
    time_told i l = reply_is i l Time ∙ ap TimeIs (time_is c good i (inside i l) h size un)

    pub version_told : (i : ℕ) → i < wait_of c → reply_of (node_at c nodes i) (record { block = k; request = Read Every }) ≡ Found (version_of c i h)
    version_told i l = reply_is i l (Read Every) ∙ (rw (greatest_is c good i (inside i l) h size un) refl)

    -- what is asked for a time or a version changes no node
    unchanged : (i : ℕ) → i < wait_of c → (request : Request) → added_in s i (kept_of c i h) request ≡ None
        → with_versions (node_at c nodes i) k (after_of (node_at c nodes i) (record { block = k; request = request })) ≡ node_at c nodes i
    unchanged i l request e =
        let o = is.own i (inside i l) in
        let a : after_of (node_at c nodes i) (record { block = k; request = request }) ≡ versions_in (node_at c nodes i) k = after_is i l request ∙ (rw e (sym (is.kept i k l there))) in
        rw a (ap (λ bs. record { config = (node_at c nodes i).config; number = (node_at c nodes i).number; blocks = bs }) (set-get_or (node_at c nodes i).blocks k []))

    module _ (t : SeenTask) (block : t.block ≡ k) where
      pub times_answers : t.stage ≡ Times → (i : ℕ) → i < wait_of c → answer_of c nodes t i ≡ TimeIs h.time
      times_answers e i l = rw (block, e) (time_told i l)

      pub versions_answers : t.stage ≡ Versions Every → (i : ℕ) → i < wait_of c → answer_of c nodes t i ≡ Found (version_of c i h)
      versions_answers e i l = rw (block, e) (version_told i l)

      module _ (new : List SeenNode) (have : HaveAnswered c nodes t (wait_of c) new) where
        pub times_leave : t.stage ≡ Times → (i : ℕ) → node_at c new i ≡ node_at c nodes i
        times_leave e i =
            let b : (i < wait_of c) ⊎ (wait_of c ≤ i) = grind arith in
            elim b [ inl l ↦ have.first i l ∙ (rw (block, e) (unchanged i l Time refl)) | inr m ↦ have.rest i m ]

        pub versions_leave : t.stage ≡ Versions Every → (i : ℕ) → node_at c new i ≡ node_at c nodes i
        versions_leave e i =
            let b : (i < wait_of c) ⊎ (wait_of c ≤ i) = grind arith in
            elim b [ inl l ↦ have.first i l ∙ (rw (block, e) (unchanged i l (Read Every) refl)) | inr m ↦ have.rest i m ]

    -- nodes that are the same hold the same
    pub same_held : (new : List SeenNode) → length new ≡ length nodes → ((i : ℕ) → node_at c new i ≡ node_at c nodes i) → IsHeld c new held
    same_held new count same = record {
      nodes_count = count ∙ is.nodes_count;
      blocks_count = is.blocks_count;
      own = λ i l. rw (same i) (is.own i l);
      kept = λ i j l m. rw (same i) (is.kept i j l m);
      blocks = is.blocks;
      unwritten = is.unwritten;
    }

    -- a node that changed this block alone
    record IsChanged (old new : SeenNode) : Type 0 where
      pub configs : new.config ≡ old.config
      pub numbers : new.number ≡ old.number
      pub lengths : length new.blocks ≡ length old.blocks
      pub others : (j : ℕ) → j ≢ k → versions_in new j ≡ versions_in old j

    with_changed : (node : SeenNode) (vs : List Version) → IsChanged node (with_versions node k vs)
    with_changed node vs = record { configs = refl; numbers = refl; lengths = length-set node.blocks k vs; others = λ j d. get_or-set_other node.blocks k j vs [] d }

    changed_twice : (a b d : SeenNode) → IsChanged a b → IsChanged b d → IsChanged a d
    changed_twice a b d p q = record { configs = q.configs ∙ p.configs; numbers = q.numbers ∙ p.numbers; lengths = q.lengths ∙ p.lengths; others = λ j e. q.others j e ∙ p.others j e }

    -- nodes that changed this block alone, and keep this of it, hold this
    changed_held : (new : List SeenNode) (h' : Held) → length new ≡ c.n → ((i : ℕ) → i < c.n → IsChanged (node_at c nodes i) (node_at c new i)) → ((i : ℕ) → i < wait_of c → versions_in (node_at c new i) k ≡ kept_of c i h')
        → IsBlock s h'.value → (h'.time ≡ 0 → h'.value ≡ zeros s) → IsHeld c new (slice_set held k h')
    changed_held new h' count changed kept block first = record {
      nodes_count = count;
      blocks_count = length-set held k h' ∙ is.blocks_count;
      own = λ i l. (let o = is.own i l in let g = changed i l in record { config = g.configs ∙ o.config; number = g.numbers ∙ o.number; blocks = g.lengths ∙ o.blocks });
      kept = λ i j l m. elim (cases_eq j k) [
        | inl e ↦ rw (e, here) (kept i l)
        | inr d ↦ rw (apart j d) ((changed i (inside i l)).others j d ∙ is.kept i j l m)
      ];
      blocks = λ j m. elim (cases_eq j k) [ inl e ↦ rw (e, here) block | inr d ↦ rw (apart j d) (is.blocks j m) ];
      unwritten = λ j m. elim (cases_eq j k) [ inl e ↦ rw (e, here) first | inr d ↦ rw (apart j d) (is.unwritten j m) ];
    }
      where
        here : held_at c (slice_set held k h') k ≡ h'
        here = get_or-set_same held k h' (unwritten c) (omega (arith, there, is.blocks_count))

        apart : (j : ℕ) → j ≢ k → held_at c (slice_set held k h') j ≡ held_at c held j
        apart j d = get_or-set_other held k j h' (unwritten c) d

    pruned_node : (new : List SeenNode) (stamp : Stamp) (i : ℕ) → length new ≡ c.n → i < c.n → node_at c (map (pruned_at k stamp) new) i ≡ pruned_at k stamp (node_at c new i)
    pruned_node new stamp i count l = get_or-map (pruned_at k stamp) new i _ _ (omega (arith, count, l))

    -- a prune by the stamp of the latest write leaves what is held
    pub pruned_held : (new : List SeenNode) → length new ≡ length nodes → ((i : ℕ) → node_at c new i ≡ node_at c nodes i) → IsHeld c (map (pruned_at k (stamp_of c h)) new) held
    pruned_held new count same =
        let long : length new ≡ c.n = count ∙ is.nodes_count in
        let node : (i : ℕ) → i < c.n → node_at c (map (pruned_at k (stamp_of c h)) new) i ≡ pruned_at k (stamp_of c h) (node_at c nodes i) =
        λ i l. pruned_node new (stamp_of c h) i long l ∙ ap (pruned_at k (stamp_of c h)) (same i) in
        let r = changed_held (map (pruned_at k (stamp_of c h)) new) h (length-map new (pruned_at k (stamp_of c h)) ∙ long)
        (λ i l. rw (node i l) (with_changed (node_at c nodes i) _))
        (λ i l. rw (node i (inside i l)) (kept i l))
        size un in
        rw (set-get_or held k (unwritten c)) at r
      where
        kept : (i : ℕ) → i < wait_of c → versions_in (pruned_at k (stamp_of c h) (node_at c nodes i)) k ≡ kept_of c i h
        kept i l =
            let o = is.own i (inside i l) in
            get_or-set_same (node_at c nodes i).blocks k _ [] (omega (arith, o.blocks, there))
            ∙ (rw (is.kept i k l there, o.config) (prune_same c good i (inside i l) h size un))

    module _ (value : List ℕ) (is_block : IsBlock s value) where
      abbrev stamp : Stamp
      stamp = record { time = h.time + 1; client = the_client; verifier = verifier_of s value }

      abbrev next : ℕ → Version
      next i = record { stamp = stamp; sum = s.sum_of value; fragment = s.fragment_of value i }

      -- the next write is acknowledged by each node that is asked
      pub write_told : (i : ℕ) → i < wait_of c → reply_of (node_at c nodes i) (record { block = k; request = Write (next i) }) ≡ Ack
      write_told i l = reply_is i l (Write (next i)) ∙ (rw (not_refused c good i (inside i l) h size un value is_block) refl)

      written_node : (i : ℕ) → i < wait_of c → after_of (node_at c nodes i) (record { block = k; request = Write (next i) }) ≡ kept_of c i h ++ next i ∷ []
      written_node i l = after_is i l (Write (next i)) ∙ (rw (is_added c good i (inside i l) h size un value is_block) refl)

      -- and after the prune by its stamp the nodes hold its value
      module _ (t : SeenTask) (block : t.block ≡ k) (stage : t.stage ≡ Storing stamp value) where
        pub storing_answers : (i : ℕ) → i < wait_of c → answer_of c nodes t i ≡ Ack
        storing_answers i l = rw (block, stage) (write_told i l)

        pub written_held : (new : List SeenNode) → HaveAnswered c nodes t (wait_of c) new → IsHeld c (map (pruned_at k stamp) new) (slice_set held k (rewritten h value))
        written_held new have =
            let long : length new ≡ c.n = have.count ∙ is.nodes_count in
            changed_held (map (pruned_at k stamp) new) (rewritten h value) (length-map new (pruned_at k stamp) ∙ long)
            (λ i l. rw (pruned_node new stamp i long l) (changed_twice (node_at c nodes i) (node_at c new i) (pruned_at k stamp (node_at c new i)) (answered i) (with_changed (node_at c new i) _)))
            (λ i l. rw (pruned_node new stamp i long (inside i l), node i l) (kept i l))
            is_block (λ e. absurd (omega (arith, e)))
          where
            node : (i : ℕ) → i < wait_of c → node_at c new i ≡ with_versions (node_at c nodes i) k (kept_of c i h ++ next i ∷ [])
            node i l = have.first i l ∙ (rw (block, stage) (ap (with_versions (node_at c nodes i) k) (written_node i l)))

            answered : (i : ℕ) → IsChanged (node_at c nodes i) (node_at c new i)
            answered i =
                let b : (i < wait_of c) ⊎ (wait_of c ≤ i) = grind arith in
                elim b [
                  | inl l ↦ rw (node i l) (with_changed (node_at c nodes i) (kept_of c i h ++ next i ∷ []))
                  | inr m ↦ rw (have.rest i m) (record { configs = refl; numbers = refl; lengths = refl; others = λ j d. refl })
                ]

            kept : (i : ℕ) → i < wait_of c → versions_in (pruned_at k stamp (with_versions (node_at c nodes i) k (kept_of c i h ++ next i ∷ []))) k ≡ kept_of c i (rewritten h value)
            kept i l =
                let o = is.own i (inside i l) in
                let there_too : k < length (node_at c nodes i).blocks = omega (arith, o.blocks, there) in
                get_or-set_same (slice_set (node_at c nodes i).blocks k (kept_of c i h ++ next i ∷ [])) k _ [] (omega (arith, there_too, length-set (node_at c nodes i).blocks k (kept_of c i h ++ next i ∷ [])))
                ∙ (rw (get_or-set_same (node_at c nodes i).blocks k (kept_of c i h ++ next i ∷ []) [] there_too, o.config) (prune_next c good i (inside i l) h size un value is_block))
