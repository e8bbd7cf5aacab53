-- A store on whose seats others sit, and one whose nodes pruned blocks.
use Rattle.std.proofs.Common.{◌≡◌, ◌≢◌, ◌⊎◌, inl, inr, ℕ, zero, suc, Bor, ◌<◌, ◌≤◌, Bool, true, false, cond, List, [], ◌∷◌, ◌++◌, length, map, take, drop, replicate, get_or, set, Option, Some, None, refl, sym, ◌∙◌, ap, subst, arith}
use Rattle.std.specs.Prelude.{All, IfSome, slice_index_or}
use Rattle.std.specs.List.{AllByRecursion}
use Rattle.std.specs.Option.{option_copied}
use Rattle.std.proofs.lemmas.Bool.{cases_Bool, cases_lt, cases_eq}
use Rattle.std.proofs.lemmas.List.{length-set, length-map, length-replicate, map-set, get_or-map, get_or-replicate, get_or-set_same, get_or-set_other, get_or_past, set_past}
use Rattle.std.proofs.Math.Seq.{take-append_seam}
use Rattle.lists.proofs.lemmas.Members.{at_place, all_from_members}
use Rattle.quorum_rules.specs.Limits.{Numbers, IsValid}
use Rattle.protocol.specs.Messages.{Version}
use Rattle.protocol.specs.Nodes.{pruned}
use Rattle.protocol.specs.Instance.{setting}
use Rattle.disk_model.specs.Crash.{Pending, MayLeave}
use Rattle.node_core.specs.Seen.{SeenNode, versions_in}
use Rattle.version_disk.specs.Held.{held}
use Rattle.version_disk.specs.Stored.{Stored}
use Rattle.version_disk.specs.Deeds.{Prunes, after_deed, after_deeds, pruning}
use Rattle.version_disk.specs.declared.prune.Prune.{Prune}
use Rattle.version_disk.proofs.lemmas.Answering.{deeds_config}
use Rattle.store_device.specs.Stores.{SeenStore, Nodes, IsSound, IsStore, IsLeft, IsLeftAt, kept_at, kept_in, seat_at, is_up}
use Rattle.store_device.specs.Going.{store_of, store_with}
use Rattle.store_device.specs.Calls.{ArePruned}
use Rattle.store_device.specs.Working.{HasGoneOn}
use Rattle.store_device.specs.Answered.{has_room}
use Rattle.store_device.specs.Calls.{HasPruned as HasPrunedBlocks}
use Rattle.store_device.specs.Seating.{with_seat, HasBlocks, ArePrunesApart, HasPruned, PrunesIn, PrunesWholly, HasTried, TriesIn}
use Rattle.store_device.proofs.Asked.{IsNodeOf}
use Rattle.store_device.proofs.LifeOperations.{apart_first, apart_rest}
use Rattle.store_device.proofs.Seats.{held_is_node, found_is_left, when_true, when_false, at_true, at_false, not_false, not_true}

module _ {D X : Type 0} {memory : List Prune} (node : X → Option (Stored D)) (c : Numbers) (value : SeenStore D) (items : List X) (is : store_with c (map node items) memory ≡ value) where
  -- what sits at a seat that is there
  pub seat_there : (i : ℕ) (d : X) → i < length items → seat_at value i ≡ node (get_or items i d)
  seat_there i d l = ap (λ (s : SeenStore D). seat_at s i) (sym is) ∙ get_or-map node items i d None l

  -- and at one that isn't
  pub seat_past : (i : ℕ) → length items ≤ i → seat_at value i ≡ None
  seat_past i l = ap (λ (s : SeenStore D). seat_at s i) (sym is) ∙ get_or_past (map node items) i None (let m = length-map items node in omega arith)

  -- another sits there
  pub reseated : (i : ℕ) (x : X) → store_with c (map node (set items i x)) memory ≡ with_seat value i (node x)
  reseated i x = ap (λ (l : List (Option (Stored D))). store_with c l memory) (map-set node items i x) ∙ ap (λ (s : SeenStore D). with_seat s i (node x)) is

  -- where there is no such seat, nobody can sit on it
  pub no_seat : (i : ℕ) (seat : Option (Stored D)) → length items ≤ i → value ≡ with_seat value i seat
  no_seat i seat l = sym is ∙ ap (λ (s : List (Option (Stored D))). store_with c s memory) (sym (set_past (map node items) i seat (let m = length-map items node in omega arith))) ∙ ap (λ (s : SeenStore D). with_seat s i seat) is

-- ---- what prunes leave of a node

-- of the block the node keeps what it kept, or what a prune leaves of that
abbrev pub IsPrunedAt : Numbers → Prune → SeenNode → SeenNode → Type 0
IsPrunedAt c p old new =
    (versions_in new p.block ≡ versions_in old p.block) ⊎ (versions_in new p.block ≡ pruned (setting c) p.stamp (versions_in old p.block))

-- that is so of each, and of other blocks it keeps what it kept
pub record IsPrunedOf (c : Numbers) (prunes : List Prune) (old new : SeenNode) : Type 0 where
  pub there : AllByRecursion (λ p. IsPrunedAt c p old new) prunes
  pub others : (block : ℕ) → AllByRecursion (λ p. p.block ≢ block) prunes → versions_in new block ≡ versions_in old block

pub stays : (c : Numbers) (prunes : List Prune) (old new : SeenNode) → new ≡ old → IsPrunedOf c prunes old new
stays c prunes old new e = record {
  there = all_from_members (λ (p : Prune). IsPrunedAt c p old new) prunes (λ p there. inl (ap (λ (n : SeenNode). versions_in n p.block) e));
  others = λ block apart. ap (λ (n : SeenNode). versions_in n block) e;
}

-- two facts of each make a third
all_two : {X : Type 0} (P Q R : X → Type 0) → ((x : X) → P x → Q x → R x) → (xs : List X) → AllByRecursion P xs → AllByRecursion Q xs → AllByRecursion R xs
all_two P Q R f [] p q = tt
all_two P Q R f (x ∷ xs) p q = (f x p.0 q.0, all_two P Q R f xs p.1 q.1)

-- what is so of all prunes at each node is so at all nodes of each prune
pub at_each : {X : Type 0} (n : ℕ) (xs : List X) (P : ℕ → X → Type 0) → ((i : ℕ) → i < n → AllByRecursion (P i) xs) → AllByRecursion (λ x. (i : ℕ) → i < n → P i x) xs
at_each n [] P all = tt
at_each n (x ∷ xs) P all = (λ i l. (all i l).0, at_each n xs P (λ i l. (all i l).1))

module _ (c : Numbers) (i : ℕ) where
  pub first_pruned : (prunes : List Prune) (k : ℕ) (old new : SeenNode) → IsNodeOf c i old → All (λ (p : Prune). p.block < c.blocks) prunes → ArePrunesApart prunes
      → new ≡ after_deeds old (take k (pruning prunes)) → IsPrunedOf c prunes old new
  first_pruned prunes zero old new of_cluster there apart e = stays c prunes old new e
  first_pruned [] (suc k) old new of_cluster there apart e = stays c [] old new e
  first_pruned (p ∷ prunes) (suc k) old new of_cluster there apart e =
      let vs : List Version = pruned (setting old.config) p.stamp (versions_in old p.block) in
      let mid : SeenNode = after_deed old (Prunes p.block p.stamp) in
      let rest = first_pruned prunes k mid new
      (record { config = of_cluster.config; numbered = of_cluster.numbered; count = length-set old.blocks p.block vs ∙ of_cluster.count })
      (λ j d below. there (suc j) d (omega (arith, below))) (apart_rest (λ (q : Prune). q.block) p prunes apart) e in
      let others = apart_first (λ (q : Prune). q.block) p prunes apart in
      let below : p.block < c.blocks = there 0 p (omega arith) in
      record {
        there = (
          inr (rest.others p.block others ∙ get_or-set_same old.blocks p.block vs [] (let m = of_cluster.count in omega arith)
              ∙ ap (λ (d : Numbers). pruned (setting d) p.stamp (versions_in old p.block)) of_cluster.config),
          all_two (λ (q : Prune). IsPrunedAt c q mid new) (λ (q : Prune). q.block ≢ p.block) (λ (q : Prune). IsPrunedAt c q old new)
              (λ q is ne. subst (λ (us : List Version). (versions_in new q.block ≡ us) ⊎ (versions_in new q.block ≡ pruned (setting c) q.stamp us))
              (get_or-set_other old.blocks p.block q.block vs [] ne) is) prunes rest.there others,
        );
        others = λ block all. rest.others block all.1 ∙ get_or-set_other old.blocks p.block block vs [] (λ q. all.0 (sym q));
      }

module _ {D : Type 0} (pending : D → Pending) (seen : D → List ℕ) where
  -- what sits there and is up is sound
  abbrev pub IsSoundAt : Numbers → ℕ → Option (Stored D) → Type 0
  IsSoundAt c i seat = (n : Stored D) → seat ≡ Some n → n.broken ≡ false → IsSound pending seen c i n

  -- a store on one of whose seats another sits is one
  pub still_seats : (store : SeenStore D) → IsStore pending seen store → (i : ℕ) (seat : Option (Stored D)) → IsSoundAt store.config i seat → IsStore pending seen (with_seat store i seat)
  still_seats store has i seat sound = record {
    valid = has.valid;
    count = length-set store.seats i seat ∙ has.count;
    sound = λ j n there whole. elim (cases_eq j i) [
      | inr other ↦ has.sound j n (sym (get_or-set_other store.seats i j seat None other) ∙ there) whole
      | inl same ↦ elim (cases_lt i (length store.seats)) [
        | inl l ↦ (
            let here : seat ≡ Some n = sym (get_or-set_same store.seats i seat None l) ∙ ap (λ (k : ℕ). slice_index_or (set store.seats i seat) k None) (sym same) ∙ there in
            subst (λ (k : ℕ). IsSound pending seen store.config k n) (sym same) (sound n here whole))
        | inr l ↦ has.sound j n (ap (λ (s : List (Option (Stored D))). slice_index_or s j None) (sym (set_past store.seats i seat l)) ∙ there) whole
      ]
    ];
  }

  abbrev nobody : Option (Stored D)
  nobody = None

  none_at : (n i : ℕ) → get_or (replicate n nobody) i nobody ≡ nobody
  none_at n i = elim (cases_lt i n) [
    | inl l ↦ get_or-replicate n i nobody nobody l
    | inr l ↦ get_or_past (replicate n nobody) i nobody (let m = length-replicate n nobody in omega arith)
  ]

  -- a store on whose seats nobody sits is one
  pub nobody_sits : (c : Numbers) → IsValid c → (seats : List (Option (Stored D))) → seats ≡ replicate c.n None → IsStore pending seen (store_of c seats)
  nobody_sits c valid seats are =
      record {
        valid = valid;
        count = ap length are ∙ length-replicate c.n nobody;
        sound = λ i n there whole. absurd (
            let e : nobody ≡ Some n = sym (none_at c.n i) ∙ ap (λ (l : List (Option (Stored D))). get_or l i nobody) (sym are) ∙ there in
            cc);
      }

  -- a node that sits there and is up is one of the cluster
  pub config_of : (store : SeenStore D) → IsStore pending seen store → (i : ℕ) (result : Option (Bor (Stored D))) → option_copied result ≡ seat_at store i
      → IfSome result (λ node. is_up (seat_at store i) ≡ true → node.now.node.config ≡ store.config)
  config_of store has i None e = tt
  config_of store has i (Some node) e = λ (up : is_up (seat_at store i) ≡ true). (has.sound i node.now (sym e) (not_true node.now.broken (ap is_up e ∙ up))).config

  -- and of its number
  pub number_of : (store : SeenStore D) → IsStore pending seen store → (i : ℕ) (result : Option (Bor (Stored D))) → option_copied result ≡ seat_at store i
      → IfSome result (λ node. is_up (seat_at store i) ≡ true → node.now.node.number ≡ i)
  number_of store has i None e = tt
  number_of store has i (Some node) e = λ (up : is_up (seat_at store i) ≡ true). (has.sound i node.now (sym e) (not_true node.now.broken (ap is_up e ∙ up))).numbered

  module _ (prunes : List Prune) (moment : D → ℕ) (left_since : D → ℕ → List ℕ → Type 0) where
    abbrev pub Tries : Option (Stored D) → Option (Stored D) → Type 0
    Tries old new = TriesIn pending seen prunes moment left_since old new

    -- a node that tried, as what sits in a seat
    pub tried_in : (seat : Option (Stored D)) (was is : Stored D) → seat ≡ Some was → (was.broken ≡ true → is ≡ was)
        → (was.broken ≡ false → HasTried pending seen prunes moment left_since was is) → Tries seat (Some is)
    tried_in seat was is there down up =
        subst (λ (s : Option (Stored D)). Tries s (Some is)) (sym there)
        (elim (cases_Bool was.broken) [
          | inl broken ↦ at_true _ _ was.broken broken (ap Some (down broken))
          | inr whole ↦ at_false _ _ was.broken whole (is, refl, up whole)
        ])

    pub prunes_in : (old new : Option (Stored D)) → Tries old new → PrunesIn pending seen prunes old new
    prunes_in None new tried = tried
    prunes_in (Some was) new tried = elim (cases_Bool was.broken) [
      | inl broken ↦ (was, when_true _ _ was.broken broken tried, inl refl)
      | inr whole ↦ (let t = when_false _ _ was.broken whole tried in (t.0, t.1, t.2.done))
    ]

    pub down : (old new : Option (Stored D)) → Tries old new → is_up old ≡ false → new ≡ old
    down None new tried e = tried
    down (Some was) new tried e = when_true _ _ was.broken (not_false was.broken e) tried

    module _ (c : Numbers) (i : ℕ) where
      -- what is up then is sound
      sound_now : (was is : Stored D) → IsSound pending seen c i was → (is ≡ was) ⊎ (is.broken ≡ true) ⊎ HasPruned pending seen prunes was is → is.broken ≡ false → IsSound pending seen c i is
      sound_now was is sound done whole = elim done [
        | inl same ↦ subst (IsSound pending seen c i) (sym same) sound
        | inr rest ↦ elim rest [
          | inl broken ↦ absurd cc
          | inr h ↦ record {
            config = ap (λ (n : SeenNode). n.config) h.state ∙ (deeds_config was.node (pruning prunes)).0 ∙ sound.config;
            numbered = ap (λ (n : SeenNode). n.number) h.state ∙ (deeds_config was.node (pruning prunes)).1 ∙ sound.numbered;
            durable = h.durable;
            state = sym ((λ x. held (sound.config x) (sound.numbered x) (seen is.disk))) ∙ h.held;
          }
        ]
      ]

      pub still_sound : (old new : Option (Stored D)) → IsSoundAt c i old → Tries old new → IsSoundAt c i new
      still_sound None new sound tried n there whole = absurd (let e : new ≡ None = tried in let f : new ≡ Some n = there in cc)
      still_sound (Some was) new sound tried n there whole = elim (cases_Bool was.broken) [
        | inl broken ↦ absurd (let e : new ≡ Some was = when_true _ _ was.broken broken tried in let same : was ≡ n = cc in cc)
        | inr up ↦ (
            let t = when_false _ _ was.broken up tried in
            let same : t.0 ≡ n = (let e : new ≡ Some t.0 = t.1 in let f : new ≡ Some n = there in cc) in
            subst (IsSound pending seen c i) same (sound_now was t.0 (sound was refl up) t.2.done (subst (λ (x : Stored D). x.broken ≡ false) (sym same) whole)))
      ]

      -- the seat has gone on
      pub gone_on : (old new : Option (Stored D)) → IsSoundAt c i old → Tries old new → HasGoneOn pending seen moment left_since c i old new
      gone_on old new sound tried = record {
        down = down old new tried;
        up = λ (was : Stored D) (began : old ≡ Some was) (whole : was.broken ≡ false). (
            let t = when_false _ _ was.broken whole (subst (λ (s : Option (Stored D)). Tries s new) began tried) in
            (t.0, t.1, t.2.any_moment.later));
        sound = still_sound old new sound tried;
      }

      -- what a crash leaves of a node that tried
      pub left_tried : All (λ (p : Prune). p.block < c.blocks) prunes → ArePrunesApart prunes → (old new : Option (Stored D)) (gone kept : SeenNode) → IsSoundAt c i old → Tries old new → IsLeftAt moment left_since c i old new gone kept
          → IsPrunedOf c prunes (kept_at old gone) kept
      left_tried there apart None new gone kept sound tried left =
          stays c prunes gone kept (subst (λ (s : Option (Stored D)). IsLeftAt moment left_since c i None s gone kept) tried left)
      left_tried there apart (Some was) new gone kept sound tried left = elim (cases_Bool was.broken) [
        | inl broken ↦ (
            let new_is : new ≡ Some was = when_true _ _ was.broken broken tried in
            let l : IsLeftAt moment left_since c i (Some was) (Some was) gone kept = subst (λ (s : Option (Stored D)). IsLeftAt moment left_since c i (Some was) s gone kept) new_is left in
            stays c prunes (kept_at (Some was) gone) kept (when_true _ _ was.broken broken l ∙ sym (ap (λ (b : Bool). cond b gone was.node) broken)))
        | inr whole ↦ (
            let t = when_false _ _ was.broken whole tried in
            let l : IsLeftAt moment left_since c i (Some was) (Some t.0) gone kept = subst (λ (s : Option (Stored D)). IsLeftAt moment left_since c i (Some was) s gone kept) t.1 left in
            let here : (bytes : List ℕ) × left_since t.0.disk (moment was.disk) bytes × (kept ≡ held c i bytes) = when_false _ _ was.broken whole l in
            let s = sound was refl whole in
            let same : kept ≡ held was.node.config was.node.number here.0 = here.2 ∙ sym ((λ x. held (s.config x) (s.numbered x) here.0)) in
            let done = t.2.any_moment.each here.0 here.1 in
            let of_cluster : IsNodeOf c i was.node = subst (IsNodeOf c i) s.state (held_is_node c i (seen was.disk)) in
            subst (λ (n : SeenNode). IsPrunedOf c prunes n kept) (sym (ap (λ (b : Bool). cond b gone was.node) whole))
            (first_pruned c i prunes done.state.0 was.node kept of_cluster there apart (same ∙ done.state.2)))
      ]

    -- ---- all seats

    module _ (old new : SeenStore D) (config : new.config ≡ old.config) (count : length new.seats ≡ length old.seats) (has : IsStore pending seen old) (tried : (i : ℕ) → Tries (seat_at old i) (seat_at new i)) where
      pub still_store : IsStore pending seen new
      still_store = record {
        valid = subst IsValid (sym config) has.valid;
        count = count ∙ has.count ∙ sym (ap (λ (c : Numbers). c.n) config);
        sound = λ i n there whole. subst (λ (c : Numbers). IsSound pending seen c i n) (sym config) (still_sound old.config i (seat_at old i) (seat_at new i) (has.sound i) (tried i) n there whole);
      }

      pub left_pruned : All (λ (p : Prune). p.block < old.config.blocks) prunes → ArePrunesApart prunes → (gone kept : Nodes) → IsLeft moment left_since old new gone kept → ArePruned old.config prunes (kept_in old gone) kept
      left_pruned there apart gone kept left =
          let one = λ (i : ℕ) (l : i < old.config.n). left_tried old.config i there apart (seat_at old i) (seat_at new i) (gone i) (kept i) (has.sound i) (tried i) (left i l) in
          record {
            there = at_each old.config.n prunes
                (λ (i : ℕ) (p : Prune). IsPrunedAt old.config p (kept_in old gone i) (kept i)) (λ i l. (one i l).there);
            others = λ block i apart l. (one i l).others block apart;
          }

      -- what the call was
      pub has_pruned : (most : D → ℕ) → new.acknowledged ≡ old.acknowledged → All (λ (p : Prune). p.block < old.config.blocks) prunes
          → ArePrunesApart prunes
          → ((disk : D) (t : ℕ) (bytes : List ℕ) → t ≤ moment disk → MayLeave (pending disk) bytes → left_since disk t bytes)
          → HasPrunedBlocks pending seen most moment left_since prunes old new
      has_pruned most same there apart counts_now = record {
        done = λ gone kept found. left_pruned there apart gone kept (λ i l. found_is_left pending seen moment left_since old.config i counts_now
            (seat_at old i) (seat_at new i) (gone i) (kept i) (gone_on old.config i (seat_at old i) (seat_at new i) (has.sound i) (tried i))
            (found i l));
        any_moment = left_pruned there apart;
        stays = record { store = still_store; config = config; down = λ i. down (seat_at old i) (seat_at new i) (tried i) };
        acknowledged = same;
      }

    -- a call's seats, as they were and as they are
    module _ {X : Type 0} {memory : List Prune} (node : X → Option (Stored D)) (c : Numbers) (value : SeenStore D) (items first new : List X) (len : ℕ) (lent : first ≡ items) (is : store_with c (map node items) memory ≡ value) (long : length first ≡ len) (count : length new ≡ length first) where
      abbrev back : List X
      back = take len (new ++ drop (length new) items)

      back_is : back ≡ new
      back_is = ap (λ (n : ℕ). take n (new ++ drop (length new) items)) (sym long ∙ sym count) ∙ take-append_seam new (drop (length new) items)

      pub back_count : length (map node back) ≡ length value.seats
      back_count = length-map back node ∙ ap length back_is ∙ count ∙ ap length lent ∙ sym (length-map items node) ∙ ap (λ (s : SeenStore D). length s.seats) is

      pub tried_back : ((i : ℕ) (d : X) → i < length first → Tries (node (get_or first i d)) (node (get_or new i d))) → (i : ℕ) → Tries (seat_at value i) (seat_at (store_with c (map node back) memory) i)
      tried_back each i =
          let m : length items ≡ length first = ap length (sym lent) in
          let now : store_with c (map node new) memory ≡ store_with c (map node back) memory = ap (λ (l : List X). store_with c (map node l) memory) (sym back_is) in
          elim (cases_lt i (length first)) [
            | inl l ↦ (
                let d = (at_place first i l).0 in
                let old_is : node (get_or first i d) ≡ seat_at value i = ap (λ (l : List X). node (get_or l i d)) lent ∙ sym (seat_there node c value items is i d (omega arith)) in
                let new_is : node (get_or new i d) ≡ seat_at (store_with c (map node back) memory) i = sym (seat_there node c (store_with c (map node back) memory) new now i d (let n = count in omega arith)) in
                subst (λ (s : Option (Stored D)). Tries s (seat_at (store_with c (map node back) memory) i)) old_is (subst (Tries (node (get_or first i d))) new_is (each i d l)))
            | inr l ↦ (
                let old_is : seat_at value i ≡ None = seat_past node c value items is i (omega arith) in
                let new_is : seat_at (store_with c (map node back) memory) i ≡ None = seat_past node c (store_with c (map node back) memory) new now i (let n = count in omega arith) in
                subst (λ (s : Option (Stored D)). Tries s (seat_at (store_with c (map node back) memory) i)) (sym old_is) new_is)
          ]

      -- and each node that is up and has room has pruned
      pub wholly_back : (most : D → ℕ)
          → ((i : ℕ) (d : X) → i < length first
          → PrunesWholly pending seen most prunes false (node (get_or first i d)) (node (get_or new i d))) → (i : ℕ)
          → PrunesWholly pending seen most prunes false (seat_at value i) (seat_at (store_with c (map node back) memory) i)
      wholly_back most each i =
          let m : length items ≡ length first = ap length (sym lent) in
          let now : store_with c (map node new) memory ≡ store_with c (map node back) memory = ap (λ (l : List X). store_with c (map node l) memory) (sym back_is) in
          elim (cases_lt i (length first)) [
            | inl l ↦ (
                let d = (at_place first i l).0 in
                let old_is : node (get_or first i d) ≡ seat_at value i = ap (λ (l : List X). node (get_or l i d)) lent ∙ sym (seat_there node c value items is i d (omega arith)) in
                let new_is : node (get_or new i d) ≡ seat_at (store_with c (map node back) memory) i = sym (seat_there node c (store_with c (map node back) memory) new now i d (let n = count in omega arith)) in
                subst (λ (s : Option (Stored D)). PrunesWholly pending seen most prunes false s (seat_at (store_with c (map node back) memory) i)) old_is
                (subst (PrunesWholly pending seen most prunes false (node (get_or first i d))) new_is (each i d l)))
            | inr l ↦ record {
              wholly = λ fed room. (
                  let new_is : seat_at (store_with c (map node back) memory) i ≡ None = seat_past node c (store_with c (map node back) memory) new now i (let n = count in omega arith) in
                  let e : has_room seen most (length prunes) (seat_at (store_with c (map node back) memory) i) ≡ false = ap (has_room seen most (length prunes)) new_is in
                  absurd cc);
            }
          ]

      -- each node that is up has the block
      pub all_have : IsStore pending seen value → All (λ (p : Prune). p.block < value.config.blocks) prunes → (i : ℕ) (d : X) → i < length first → HasBlocks prunes (node (get_or first i d))
      all_have has there i d l =
          let m : length items ≡ length first = ap length (sym lent) in
          let here : seat_at value i ≡ node (get_or first i d) = seat_there node c value items is i d (omega arith) ∙ ap (λ (l : List X). node (get_or l i d)) (sym lent) in
          subst (HasBlocks prunes) here (one (seat_at value i) (has.sound i))
        where
          one : (seat : Option (Stored D)) → IsSoundAt value.config i seat → HasBlocks prunes seat
          one None sound = tt
          one (Some n) sound = λ (whole : n.broken ≡ false). subst (λ (d : Numbers). All (λ (p : Prune). p.block < d.blocks) prunes) (sym (sound n refl whole).config) there
