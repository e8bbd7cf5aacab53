-- A batch is written while marks of versions that leave are taken away: what the node is then, and what it remembers.
use Rattle.std.proofs.Common.{◌≡◌, ◌⊎◌, inl, inr, ℕ, zero, suc, ◌+◌, ◌<◌, ◌++◌, ◌∷◌, [], Bool, true, false, List, length, get_or, refl, sym, ◌∙◌, ap, subst, arith}
use Rattle.std.specs.Prelude.{Contains, All}
use Rattle.std.specs.declared.option.Option.TheVariants.{None, Some}
use Rattle.std.proofs.lemmas.Bool.{cases_Bool, false≢true}
use Rattle.quorum_rules.specs.Limits.{Numbers}
use Rattle.protocol.specs.Messages.{Version, Ask}
use Rattle.protocol.specs.Count.{one_more}
use Rattle.protocol.specs.Instance.{setting}
use Rattle.protocol.specs.Nodes.{first_version}
use Rattle.wire_forms.specs.declared.Request.TheVariants.{Write}
use Rattle.node_core.specs.Seen.{SeenNode, versions_in, accepts_of, after_of}
use Rattle.slab_layout.specs.declared.shape.Shape.{Shape}
use Rattle.slab_layout.specs.Shapes.{is_marked, shape_of}
use Rattle.slab_node.specs.declared.batch.Fresh.{Fresh}
use Rattle.slab_node.specs.Held.{held_by, held_with, versions}
use Rattle.slab_node.specs.Batches.{IsThere as HasFresh, is_in}
use Rattle.slab_node.specs.Answers.{AreAnswered, AtMostOne}
use Rattle.slab_node.proofs.lemmas.Node.{versions_at, count_of}
use Rattle.slab_index.specs.declared.kept.Kept.{Kept}
use Rattle.slab_index.specs.Kept.{put_kept}
use Rattle.slab_index.specs.Slots.{head_of, slots_by, kept_of}
use Rattle.slab_engine.specs.declared.batch.NewSlots.{NewSlots}
use Rattle.slab_engine.specs.declared.batch.Batch.{Batch}
use Rattle.slab_engine.specs.declared.plan.Plan.{Plan}
use Rattle.slab_engine.specs.declared.plan.Plan.TheVariants.{Silent, Tells as TellsTime, First, Empty, Reads, Acks, Refuses, Adds}
use Rattle.slab_engine.specs.Seen.{Leaving, listed, counted, has_slot, answered}
use Rattle.slab_engine.specs.Batches.{IsAddedBy, head_for}
use Rattle.slab_engine.proofs.Lists.{slot_of}
use Rattle.slab_engine.specs.Written.{IsStep, IsPlannedBatch}
use Rattle.slab_engine.proofs.Changes.{slots_stay, versions_stay, slots_grow, versions_grow}
use Rattle.slab_engine.proofs.Adding.{fresh_of, fresh_at, fresh_uncounted, below_count, head_then, version_then, distinct_then}
use Rattle.slab_engine.proofs.Facts.{is_below, added_low, added_answered, added_adds, added_there, in_added, adds_of, adds_none_of, plan_of}
use Rattle.slab_engine.proofs.Filtered.{has_filter}

any_default : (xs : List Ask) (i : ℕ) (d e : Ask) → i < length xs → get_or xs i d ≡ get_or xs i e
any_default [] i d e lt = absurd (omega (arith, lt))
any_default (x ∷ xs) zero d e lt = refl
any_default (x ∷ xs) (suc i) d e lt = any_default xs i d e (omega (arith, lt))

adds_or_not : (p : Plan) → (p ≡ Adds) ⊎ (p ≡ Adds → ⊥)
adds_or_not Silent = inr (λ e. cc)
adds_or_not (TellsTime time) = inr (λ e. cc)
adds_or_not First = inr (λ e. cc)
adds_or_not Empty = inr (λ e. cc)
adds_or_not (Reads k) = inr (λ e. cc)
adds_or_not Acks = inr (λ e. cc)
adds_or_not (Refuses reason) = inr (λ e. cc)
adds_or_not Adds = inl refl

write_same : (v w : Version) → Write v ≡ Write w → v ≡ w
write_same v w e = cc

-- of blocks whose slots come to count or stay
module _ (c : Numbers) (number key : ℕ) (old : List ℕ) (index : List (List Kept)) (free : List Bool) (next : ℕ) (leaving cleared : List Leaving)
    (answers : List Bool) (asks : List Ask) (plans : List Plan) (added slots : List ℕ) (batch : Batch)
    (f : IsPlannedBatch c number key old index free next leaving cleared answers asks plans added slots batch)
    (some_ask : Ask) (some_fresh : Fresh) (some_new : NewSlots) where
  abbrev s : Shape
  s = shape_of c

  abbrev fresh : ℕ → Bool
  fresh = is_in batch.fresh.items

  abbrev was : ℕ → Bool
  was = counted c cleared old

  abbrev ask_at : ℕ → Ask
  ask_at k = get_or asks (get_or added k 0) some_ask

  abbrev slot_at : ℕ → ℕ
  slot_at k = get_or slots k 0

  abbrev pub plan_of_ask : Ask → Plan
  plan_of_ask = plan_of c number key old index free next leaving cleared answers asks plans added slots batch f

  abbrev pub its : (k : ℕ) → k < length added → IsAddedBy c key index (ask_at k) (slot_at k) (next + k) (get_or batch.fresh.items k some_fresh) (get_or batch.new.items k some_new)
  its k lt = f.made.each k some_ask some_fresh some_new lt

  low : (k : ℕ) → k < length added → get_or added k 0 < length asks
  low k lt = added_low c number key old index free next leaving cleared answers asks plans added slots batch f k lt

  answered_at : (k : ℕ) → k < length added → listed answers (ask_at k).block ≡ true
  answered_at k lt = added_answered c number key old index free next leaving cleared answers asks plans added slots batch f k some_ask lt

  below_at : (k : ℕ) → k < length added → (ask_at k).block < c.blocks
  below_at k lt = is_below c number key old index free next leaving cleared answers asks plans added slots batch f (ask_at k) (answered_at k lt)

  -- the node adds the version
  pub accepts_at : (k : ℕ) → (lt : k < length added) → accepts_of (held_with c number (has_slot cleared) old) (ask_at k) ≡ Some (its k lt).version
  accepts_at k lt =
      let some = adds_of c number key old index free next leaving cleared answers asks plans added slots batch f (ask_at k) (answered_at k lt)
      (added_adds c number key old index free next leaving cleared answers asks plans added slots batch f k some_ask lt) in
      some.3 ∙ ap Some (write_same some.0 (its k lt).version (sym some.1 ∙ (its k lt).write.request))

  from : (j : ℕ) → fresh j ≡ true → (k : ℕ) × (k < length added) × (slot_at k ≡ j)
  from = fresh_of c key index asks added slots next batch free f.made f.picked some_ask some_fresh some_new

  uncounted : (j : ℕ) → j < s.count → fresh j ≡ true → was j ≡ false
  uncounted = fresh_uncounted c key index asks added slots next batch free f.made f.picked some_ask some_fresh some_new old leaving cleared f.tells

  -- no fresh slot is that of a version that leaves or was cleared
  not_cleared : (j : ℕ) → j < s.count → fresh j ≡ true → has_slot cleared j ≡ false
  not_cleared j lt is = elim (cases_Bool (has_slot cleared j)) [
    | inl held ↦ (let counts : was j ≡ true = rw held refl in absurd (false≢true (sym (uncounted j lt is) ∙ counts)))
    | inr not_so ↦ not_so
  ]

  pub unmarked_fresh : (j : ℕ) → j < s.count → fresh j ≡ true → is_marked s old j ≡ false
  unmarked_fresh j lt is = (let un = uncounted j lt is in rw (not_cleared j lt is) at un)

  leaving_marked : (k : ℕ) → has_slot leaving k ≡ true → is_marked s old k ≡ true
  leaving_marked k goes = (let found = slot_of _ leaving k f.tells.marked goes in subst (λ (j : ℕ). is_marked s old j ≡ true) found.2 found.3.1)

  pub not_leaving : (j : ℕ) → j < s.count → fresh j ≡ true → has_slot leaving j ≡ false
  not_leaving j lt is = elim (cases_Bool (has_slot leaving j)) [
    | inl goes ↦ absurd (false≢true (sym (unmarked_fresh j lt is) ∙ leaving_marked j goes))
    | inr not_so ↦ not_so
  ]

  module _ (new : List ℕ) (there : All (λ x. HasFresh s new x) batch.fresh.items) (m m' : ℕ → Bool) (older : List ℕ) (step : IsStep s older new m m' fresh)
      (less : (k : ℕ) → k < s.count → m k ≡ true → (head_of s older k).number < next) where
    head_at_k : (k : ℕ) (lt : k < length added) → head_of s new (slot_at k) ≡ head_for key (ask_at k).block (its k lt).version (next + k)
    head_at_k = head_then c key index asks added slots next batch free f.made f.picked some_ask some_fresh some_new f.apart f.adding.ascend low new there

    block_at_k : (k : ℕ) → k < length added → (head_of s new (slot_at k)).block ≡ (ask_at k).block
    block_at_k k lt = ap (λ h. h.block) (head_at_k k lt)

    number_at_k : (k : ℕ) → k < length added → (head_of s new (slot_at k)).number ≡ next + k
    number_at_k k lt = ap (λ h. h.number) (head_at_k k lt)

    distinct : (block : ℕ) → AtMostOne s fresh new block
    distinct = distinct_then c key index asks added slots next batch free f.made f.picked some_ask some_fresh some_new f.apart f.adding.ascend low new there

    slot_low : (k : ℕ) → k < length added → slot_at k < s.count
    slot_low = below_count c key index asks added slots next batch free f.made f.picked some_ask some_fresh some_new

    fresh_k : (k : ℕ) → k < length added → fresh (slot_at k) ≡ true
    fresh_k = fresh_at c key index asks added slots next batch free f.made f.picked some_ask some_fresh some_new

    greater : (k : ℕ) → k < length added → (i : ℕ) → i < s.count → m i ≡ true → (head_of s older i).block ≡ (ask_at k).block → (head_of s older i).number < (head_of s new (slot_at k)).number
    greater k lt i low counts here = (let below = less i low counts in let is = number_at_k k lt in omega (arith, below, is))

    -- the block of an ask of the batch whose slot counts
    pub grown : (k : ℕ) (lt : k < length added) → m' (slot_at k) ≡ true → versions s m' new (ask_at k).block ≡ versions s m older (ask_at k).block ++ (its k lt).version ∷ []
    grown k lt now =
        versions_grow s older new m m' fresh step (ask_at k).block (slot_at k) (slot_low k lt) (fresh_k k lt) now (block_at_k k lt) (distinct (ask_at k).block) (greater k lt)
        ∙ ap (λ v. versions s m older (ask_at k).block ++ v ∷ [])
        (version_then c key index asks added slots next batch free f.made f.picked some_ask some_fresh some_new f.apart f.adding.ascend low new there k lt)

    pub slots_grown : (k : ℕ) (lt : k < length added) → m' (slot_at k) ≡ true
        → slots_by s m' new (ask_at k).block ≡ put_kept (kept_of (slot_at k) (head_for key (ask_at k).block (its k lt).version (next + k))) (slots_by s m older (ask_at k).block)
    slots_grown k lt now =
        slots_grow s older new m m' fresh step (ask_at k).block (slot_at k) (slot_low k lt) (fresh_k k lt) now (block_at_k k lt) (distinct (ask_at k).block) (greater k lt)
        ∙ ap (λ h. put_kept (kept_of (slot_at k) h) (slots_by s m older (ask_at k).block)) (head_at_k k lt)

    -- a block of none of them
    none_of : (block : ℕ) → ((k : ℕ) → k < length added → (ask_at k).block ≡ block → ⊥) → (j : ℕ) → j < s.count → fresh j ≡ true → m' j ≡ true → (head_of s new j).block ≡ block → ⊥
    none_of block none j lt is now here =
        let found = from j is in
        none found.0 found.1 (sym (block_at_k found.0 found.1) ∙ ap (λ n. (head_of s new n).block) found.2 ∙ here)

    pub stay : (block : ℕ) → ((k : ℕ) → k < length added → (ask_at k).block ≡ block → ⊥) → versions s m' new block ≡ versions s m older block
    stay block none = versions_stay s older new m m' fresh step block (none_of block none)

    pub slots_as_before : (block : ℕ) → ((k : ℕ) → k < length added → (ask_at k).block ≡ block → ⊥) → slots_by s m' new block ≡ slots_by s m older block
    slots_as_before block none = slots_stay s older new m m' fresh step block (none_of block none)

  -- an ask that adds nothing is of no block of the batch
  others_of : (ask : Ask) → Contains (answered (listed answers) asks) ask → (plan_of_ask ask ≡ Adds → ⊥) → (k : ℕ) → k < length added → (ask_at k).block ≡ ask.block → ⊥
  others_of ask there not_so k lt same =
      let at = (has_filter (λ (a : Ask). listed answers a.block) asks ask there).0 in
      let one : get_or added k 0 ≡ at.0 = f.apart (get_or added k 0) at.0 some_ask (low k lt) at.1 (same ∙ sym (ap (λ a. a.block) (any_default asks at.0 some_ask ask at.1 ∙ at.2))) in
      let is : ask_at k ≡ ask = ap (λ i. get_or asks i some_ask) one ∙ any_default asks at.0 some_ask ask at.1 ∙ at.2 in
      not_so (subst (λ (a : Ask). plan_of_ask a ≡ Adds) is (added_adds c number key old index free next leaving cleared answers asks plans added slots batch f k some_ask lt))

  -- ---- all asks are answered

  module _ (new : List ℕ) (m' : ℕ → Bool) (there : All (λ x. HasFresh s new x) batch.fresh.items) (step : IsStep s old new was m' fresh)
      (all_count : (j : ℕ) → j < s.count → fresh j ≡ true → m' j ≡ true) where
    abbrev node : SeenNode
    node = held_by s was c number old

    abbrev then : SeenNode
    then = held_by s m' c number new

    abbrev first : Version
    first = first_version (setting c) number

    slot_counts : (k : ℕ) → k < length added → m' (slot_at k) ≡ true
    slot_counts k lt =
        all_count (slot_at k) (below_count c key index asks added slots next batch free f.made f.picked some_ask some_fresh some_new k lt)
        (fresh_at c key index asks added slots next batch free f.made f.picked some_ask some_fresh some_new k lt)

    is_as_before : (block : ℕ) → block < c.blocks → ((k : ℕ) → k < length added → (ask_at k).block ≡ block → ⊥) → versions_in then block ≡ versions_in node block
    is_as_before block lt none =
        versions_at c number m' new block lt ∙ ap (λ vs. first ∷ vs) (stay new there was m' old step f.tells.below block none) ∙ sym (versions_at c number was old block lt)

    is_added : (k : ℕ) (lt : k < length added) → versions_in then (ask_at k).block ≡ after_of node (ask_at k)
    is_added k lt =
        let block : ℕ = (ask_at k).block in
        let v : Version = (its k lt).version in
        versions_at c number m' new block (below_at k lt)
        ∙ ap (λ vs. first ∷ vs) (grown new there was m' old step f.tells.below k lt (slot_counts k lt))
        ∙ ap (λ vs. vs ++ v ∷ []) (sym (versions_at c number was old block (below_at k lt)))
        ∙ sym (ap (one_more (versions_in node block)) (accepts_at k lt))

    by_plan : (ask : Ask) → Contains (answered (listed answers) asks) ask → ask.block < c.blocks → versions_in then ask.block ≡ after_of node ask
    by_plan ask there lt = elim (adds_or_not (plan_of_ask ask)) [
      | inl adds ↦
          let found = in_added c number key old index free next leaving cleared answers asks plans added slots batch f ask there adds in
          let is : ask_at found.0 ≡ ask = any_default asks (get_or added found.0 0) some_ask ask (low found.0 found.1) ∙ found.2 in
          subst (λ (a : Ask). versions_in then a.block ≡ after_of node a) is (is_added found.0 found.1)
      | inr not_so ↦
          let at = has_filter (λ (a : Ask). listed answers a.block) asks ask there in
          let none : accepts_of node ask ≡ None = adds_none_of c number key old index free next leaving cleared answers asks plans added slots batch f ask at.1 not_so in
          is_as_before ask.block lt (others_of ask there not_so) ∙ sym (ap (one_more (versions_in node ask.block)) none)
    ]

    pub all_answered : AreAnswered (answered (listed answers) asks) node then
    all_answered = record {
      config = refl;
      number = refl;
      count = count_of c number m' new ∙ sym (count_of c number was old);
      each = by_plan;
      others = λ block lt none. is_as_before block lt (λ k low here.
          none (ask_at k) (added_there c number key old index free next leaving cleared answers asks plans added slots batch f k some_ask low) here);
    }
