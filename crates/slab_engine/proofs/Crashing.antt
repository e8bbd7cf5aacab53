-- What a crash leaves while a batch is written and marks are taken away.
use Rattle.std.proofs.Common.{◌≡◌, ◌⊎◌, inl, inr, ℕ, zero, suc, ◌+◌, ◌<◌, ◌≤◌, ◌==◌, ◌||◌, ◌++◌, ◌∷◌, [], Bool, true, false, if◌then◌else◌, List, length, get_or, refl, sym, ◌∙◌, ap, subst, arith, eqb-true, eq-eqb}
use Rattle.std.specs.Prelude.{All, Contains, Option}
use Rattle.std.specs.declared.option.Option.TheVariants.{None, Some}
use Rattle.std.proofs.lemmas.Bool.{cases_Bool, false≢true}
use Rattle.quorum_rules.specs.Limits.{Numbers}
use Rattle.stamp_order.specs.declared.Stamp.{Stamp}
use Rattle.stamp_order.specs.Stamps.{same_stamp}
use Rattle.protocol.specs.Messages.{Version, Ask, Reason}
use Rattle.protocol.specs.Count.{one_more}
use Rattle.protocol.specs.Instance.{setting}
use Rattle.protocol.specs.Nodes.{first_version, refusal, added_in, added as added_by, keeps as keeps_stamp}
use Rattle.wire_forms.specs.declared.Request.TheVariants.{Write}
use Rattle.node_core.specs.Seen.{SeenNode, versions_in, accepts_of, after_of}
use Rattle.slab_layout.specs.declared.shape.Shape.{Shape}
use Rattle.slab_layout.specs.Shapes.{is_marked, answers_for, shape_of, slab_len, part, head_at, data_at, data_len}
use Rattle.slab_layout.specs.Heads.{head_in}
use Rattle.slab_node.specs.declared.batch.Fresh.{Fresh}
use Rattle.slab_node.specs.Held.{held, held_by, held_with, versions}
use Rattle.slab_node.specs.Left.{nothing}
use Rattle.slab_node.specs.Changes.{ChangesOnly, AreUnmarked}
use Rattle.slab_node.specs.Batches.{IsThere as HasFresh, is_in, IsHalfway, IsMidwayOver}
use Rattle.slab_node.specs.Answers.{AreAnsweredInPart, IsAnsweredOrNot}
use Rattle.slab_node.specs.Freed.{KeepsSome, none, keeps, drops}
use Rattle.slab_node.proofs.lemmas.Node.{versions_at, count_of}
use Rattle.slab_node.proofs.lemmas.Changing.{mark_same, answer_same, head_same, data_same}
use Rattle.slab_index.specs.declared.kept.Kept.{Kept}
use Rattle.slab_index.specs.Slots.{head_of}
use Rattle.slab_engine.specs.declared.batch.NewSlots.{NewSlots}
use Rattle.slab_engine.specs.declared.batch.Batch.{Batch}
use Rattle.slab_engine.specs.declared.plan.Plan.{Plan}
use Rattle.slab_engine.specs.Seen.{Leaving, listed, answered, counted, has_slot, IsOneOf, IsLessLeaving, IsPartly}
use Rattle.slab_engine.specs.Batches.{IsAddedBy}
use Rattle.slab_engine.specs.Written.{IsStep, IsPlannedBatch}
use Rattle.slab_engine.proofs.Planned.{accepts_in, not_kept}
use Rattle.slab_engine.proofs.Changes.{versions_stay}
use Rattle.slab_engine.proofs.Dropping.{less_leaving}
use Rattle.slab_engine.proofs.Adding.{fresh_of, fresh_uncounted, block_then, same_block}
use Rattle.slab_engine.proofs.Facts.{is_below, added_low, added_answered, added_adds, added_there, adds_of}
use Rattle.slab_engine.proofs.Writing.{grown, stay, unmarked_fresh, not_leaving}

-- what isn't kept isn't kept by fewer
either_false : (a b : Bool) → (a || b) ≡ false → (a ≡ false) × (b ≡ false)
either_false true b h = absurd (false≢true (sym h))
either_false false b h = (refl, h)

keeps_less : (Go : Version → Type 0) (xs ys : List Version) (t : Stamp) → KeepsSome Go xs ys → keeps_stamp xs t ≡ false → keeps_stamp ys t ≡ false
keeps_less Go _ _ t none h = refl
keeps_less Go _ _ t (keeps x xs ys some) h =
    let parts = either_false (same_stamp x.stamp t) (keeps_stamp xs t) h in
    rw parts.0 (keeps_less Go xs ys t some parts.1)
keeps_less Go _ _ t (drops x xs ys go some) h = keeps_less Go xs ys t some (either_false (same_stamp x.stamp t) (keeps_stamp xs t) h).1

-- a search among the first few numbers
find_k : (p : ℕ → Bool) (n : ℕ) → ((k : ℕ) × (k < n) × (p k ≡ true)) ⊎ ((k : ℕ) → k < n → p k ≡ false)
find_k p zero = inr (λ k lt. absurd (omega (arith, lt)))
find_k p (suc n) = elim (cases_Bool (p n)) [
  | inl hit ↦ inl (n, omega arith, hit)
  | inr miss ↦ elim (find_k p n) [
    | inl found ↦ inl (found.0, omega (arith, found.1), found.2)
    | inr rest ↦ inr (λ k lt. below k lt miss rest)
  ]
]
  where
    below : (k : ℕ) → k < suc n → p n ≡ false → ((k : ℕ) → k < n → p k ≡ false) → p k ≡ false
    below k lt miss rest = elim (cases_Bool (k == n)) [
      | inl it ↦ ap p (eqb-true _ _ it) ∙ miss
      | inr other ↦ rest k (let differs : k ≡ n → ⊥ = λ e. false≢true (sym other ∙ eq-eqb _ _ e) in omega (arith, lt, differs))
    ]

same_write : (v w : Version) → Write v ≡ Write w → v ≡ w
same_write v w e = cc

module _ (c : Numbers) (number key : ℕ) (old : List ℕ) (index : List (List Kept)) (free : List Bool) (next : ℕ) (leaving cleared : List Leaving)
    (answers : List Bool) (asks : List Ask) (plans : List Plan) (added slots : List ℕ) (batch : Batch)
    (f : IsPlannedBatch c number key old index free next leaving cleared answers asks plans added slots batch)
    (some_ask : Ask) (some_fresh : Fresh) (some_new : NewSlots) where
  abbrev s : Shape
  s = shape_of c

  abbrev was : ℕ → Bool
  was = counted c cleared old

  abbrev node : SeenNode
  node = held_with c number (has_slot cleared) old

  abbrev fresh : ℕ → Bool
  fresh = is_in batch.fresh.items

  abbrev ask_at : ℕ → Ask
  ask_at k = get_or asks (get_or added k 0) some_ask

  abbrev slot_at : ℕ → ℕ
  slot_at k = get_or slots k 0

  abbrev its : (k : ℕ) → k < length added → IsAddedBy c key index (ask_at k) (slot_at k) (next + k) (get_or batch.fresh.items k some_fresh) (get_or batch.new.items k some_new)
  its k lt = f.made.each k some_ask some_fresh some_new lt

  -- only heads and data of the batch changed, and marks of what leaves
  module _ (left : List ℕ) (changes : ChangesOnly s fresh (has_slot leaving) nothing old left) where
    marks_firm : (k : ℕ) → k < s.count → has_slot leaving k ≡ false → is_marked s left k ≡ is_marked s old k
    marks_firm k lt stays = mark_same s fresh (has_slot leaving) nothing old left changes f.tells.long k lt stays

    fresh_stays : (k : ℕ) → k < s.count → fresh k ≡ true → has_slot leaving k ≡ false
    fresh_stays = not_leaving c number key old index free next leaving cleared answers asks plans added slots batch f some_ask some_fresh some_new

    fresh_unmarked : (k : ℕ) → k < s.count → fresh k ≡ true → is_marked s left k ≡ false
    fresh_unmarked k lt is =
        marks_firm k lt (fresh_stays k lt is)
        ∙ unmarked_fresh c number key old index free next leaving cleared answers asks plans added slots batch f some_ask some_fresh some_new k lt is

    marked_firm : (k : ℕ) → k < s.count → is_marked s left k ≡ true → fresh k ≡ false
    marked_firm k lt is = elim (cases_Bool (fresh k)) [ inl it ↦ absurd (false≢true (sym (fresh_unmarked k lt it) ∙ is)) | inr firm ↦ firm ]

    heads_same : (k : ℕ) → k < s.count → is_marked s left k ≡ true → part left (head_at s k) 72 ≡ part old (head_at s k) 72
    heads_same k lt is = head_same s fresh (has_slot leaving) nothing old left changes f.tells.long k lt (marked_firm k lt is)

    less : IsLessLeaving (leaving ++ cleared) node (held c number left)
    less =
        less_leaving c number old left leaving cleared (is_marked s left) f.tells.marked f.tells.cleared (λ k lt stays held. marks_firm k lt stays) heads_same
        (λ k lt is. data_same s fresh (has_slot leaving) nothing old left changes f.tells.long k lt (marked_firm k lt is))

    answers_same : (b : ℕ) → b < c.blocks → answers_for s left b ≡ answers_for s old b
    answers_same b lt = answer_same s fresh (has_slot leaving) nothing old left changes f.tells.long b lt refl

    partly : IsPartly (leaving ++ cleared) (answered (listed answers) asks) node old left
    partly = record { mid = held c number left; less = less; part = record { config = refl; number = refl; count = refl; each = λ block lt. inl refl }; answers = answers_same }

  -- then marks of the batch were written, each of them or not
  module _ (left : List ℕ) (half : IsHalfway s (has_slot leaving) batch.fresh.items old left) where
    abbrev mid : List ℕ
    mid = half.mid

    abbrev first : Version
    first = first_version (setting c) number

    mid_long : slab_len s ≤ length mid
    mid_long = (let a = f.tells.long in let b = half.before.no_shorter in omega (arith, a, b))

    step : IsStep s mid left (is_marked s mid) (is_marked s left) fresh
    step = record {
      firm = λ k lt firm. mark_same s nothing fresh nothing mid left half.marks mid_long k lt firm;
      free = fresh_unmarked mid half.before;
      heads = λ k lt is. head_same s nothing fresh nothing mid left half.marks mid_long k lt refl;
      bodies = λ k lt is. data_same s nothing fresh nothing mid left half.marks mid_long k lt refl;
    }

    there : All (λ x. HasFresh s left x) batch.fresh.items
    there k d lt =
        let at = half.there k d lt in
        let low = size k d lt in
        record {
          head = head_same s nothing fresh nothing mid left half.marks mid_long (get_or batch.fresh.items k d).slot low refl ∙ at.head;
          body = data_same s nothing fresh nothing mid left half.marks mid_long (get_or batch.fresh.items k d).slot low refl ∙ at.body;
        }
      where
        size : (k : ℕ) (d : Fresh) → k < length batch.fresh.items → (get_or batch.fresh.items k d).slot < s.count
        size k d lt = (f.made.each k some_ask d some_new (omega (arith, lt, f.made.fresh_count))).fresh.sizes.slot

    -- a slot that is marked in the middle counted before
    counted_before : (k : ℕ) → k < s.count → is_marked s mid k ≡ true → was k ≡ true
    counted_before k lt is = elim (cases_Bool (has_slot cleared k)) [
      | inl held ↦ rw held refl
      | inr other ↦ elim (cases_Bool (has_slot leaving k)) [
        | inl goes ↦ absurd (false≢true (sym (half.unmarked k lt goes) ∙ is))
        | inr stays ↦ rw other (sym (marks_firm mid half.before k lt stays) ∙ is)
      ]
    ]

    numbers : (k : ℕ) → k < s.count → is_marked s mid k ≡ true → (head_of s mid k).number < next
    numbers k lt is =
        let below = f.tells.below k lt (counted_before k lt is) in
        let same : (head_of s mid k).number ≡ (head_of s old k).number = ap (λ h. (head_in h).number) (heads_same mid half.before k lt is) in
        omega (arith, below, same)

    low : (k : ℕ) → k < length added → get_or added k 0 < length asks
    low k lt = added_low c number key old index free next leaving cleared answers asks plans added slots batch f k lt

    answered_at : (k : ℕ) → k < length added → listed answers (ask_at k).block ≡ true
    answered_at k lt = added_answered c number key old index free next leaving cleared answers asks plans added slots batch f k some_ask lt

    below_at : (k : ℕ) → k < length added → (ask_at k).block < c.blocks
    below_at k lt = is_below c number key old index free next leaving cleared answers asks plans added slots batch f (ask_at k) (answered_at k lt)

    -- the node in the middle adds the version too
    accepts_mid : (k : ℕ) (lt : k < length added) → accepts_of (held c number mid) (ask_at k) ≡ Some (its k lt).version
    accepts_mid k lt =
        let ask : Ask = ask_at k in
        let v : Version = (its k lt).version in
        let some = adds_of c number key old index free next leaving cleared answers asks plans added slots batch f ask (answered_at k lt)
        (added_adds c number key old index free next leaving cleared answers asks plans added slots batch f k some_ask lt) in
        let request : ask.request ≡ Write v = (its k lt).write.request in
        let same : some.0 ≡ v = same_write some.0 v (sym some.1 ∙ request) in
        let fine : refusal (setting c) number v ≡ None = ap (refusal (setting c) number) (sym same) ∙ some.2 in
        let was_added : added_by None (versions_in node ask.block) v ≡ Some some.0 =
        ap (λ (o : Option Reason). added_by o (versions_in node ask.block) v) (sym fine)
        ∙ ap (λ q. added_in (setting c) number (versions_in node ask.block) q) (sym request)
        ∙ sym (accepts_in c number was old ask.block (below_at k lt) ask refl) ∙ some.3 in
        let not_there : keeps_stamp (versions_in node ask.block) v.stamp ≡ false = not_kept (versions_in node ask.block) v some.0 was_added in
        let still_not : keeps_stamp (versions_in (held c number mid) ask.block) v.stamp ≡ false =
        keeps_less (IsOneOf (leaving ++ cleared) ask.block) (versions_in node ask.block) (versions_in (held c number mid) ask.block) v.stamp ((less mid half.before).each ask.block (below_at k lt)) not_there in
        let now_added : added_by None (versions_in (held c number mid) ask.block) v ≡ Some v = rw still_not refl in
        accepts_in c number (is_marked s mid) mid ask.block (below_at k lt) ask refl
        ∙ ap (λ q. added_in (setting c) number (versions_in (held c number mid) ask.block) q) request
        ∙ ap (λ (o : Option Reason). added_by o (versions_in (held c number mid) ask.block) v) fine
        ∙ now_added

    block_at_k : (k : ℕ) → k < length added → (head_of s left (slot_at k)).block ≡ (ask_at k).block
    block_at_k k lt = block_then c key index asks added slots next batch free f.made f.picked some_ask some_fresh some_new f.apart f.adding.ascend low left there k lt

    from : (j : ℕ) → fresh j ≡ true → (k : ℕ) × (k < length added) × (slot_at k ≡ j)
    from = fresh_of c key index asks added slots next batch free f.made f.picked some_ask some_fresh some_new

    same_versions : (block : ℕ) → block < c.blocks → versions s (is_marked s left) left block ≡ versions s (is_marked s mid) mid block → versions_in (held c number left) block ≡ versions_in (held c number mid) block
    same_versions block lt same = versions_at c number (is_marked s left) left block lt ∙ ap (λ vs. first ∷ vs) same ∙ sym (versions_at c number (is_marked s mid) mid block lt)

    -- where the mark of the slot is set, the ask is answered
    is_answered : (k : ℕ) (lt : k < length added) → is_marked s left (slot_at k) ≡ true → versions_in (held c number left) (ask_at k).block ≡ after_of (held c number mid) (ask_at k)
    is_answered k lt set =
        let block : ℕ = (ask_at k).block in
        let v : Version = (its k lt).version in
        versions_at c number (is_marked s left) left block (below_at k lt)
        ∙ ap (λ vs. first ∷ vs)
        (grown c number key old index free next leaving cleared answers asks plans added slots batch f some_ask some_fresh some_new left there (is_marked s mid) (is_marked s left) mid step numbers k lt set)
        ∙ ap (λ vs. vs ++ v ∷ []) (sym (versions_at c number (is_marked s mid) mid block (below_at k lt)))
        ∙ sym (ap (one_more (versions_in (held c number mid) block)) (accepts_mid k lt))

    -- where it isn't, the block is as it was
    is_unanswered : (k : ℕ) → k < length added → is_marked s left (slot_at k) ≡ false → (j : ℕ) → j < s.count → fresh j ≡ true → is_marked s left j ≡ true → (head_of s left j).block ≡ (ask_at k).block → ⊥
    is_unanswered k lt unset j low_j is now here =
        let at = from j is in
        let same : at.0 ≡ k = same_block c key index asks added slots next batch free f.made f.picked some_ask some_fresh some_new f.apart f.adding.ascend low at.0 k at.1 lt
        (sym (block_at_k at.0 at.1) ∙ ap (λ n. (head_of s left n).block) at.2 ∙ here) in
        false≢true (sym unset ∙ ap (λ n. is_marked s left (slot_at n)) (sym same) ∙ ap (is_marked s left) at.2 ∙ now)

    each : (block : ℕ) → block < c.blocks → IsAnsweredOrNot (answered (listed answers) asks) (held c number mid) (held c number left) block
    each block lt = elim (find_k (λ k. (ask_at k).block == block) (length added)) [
      | inr rest ↦
          inl (same_versions block lt (stay c number key old index free next leaving cleared answers asks plans added slots batch f some_ask some_fresh some_new left there (is_marked s mid) (is_marked s left) mid step numbers block
          (λ k low_k here. false≢true (sym (rest k low_k) ∙ eq-eqb _ _ here))))
      | inl found ↦
          let k : ℕ = found.0 in
          let here : (ask_at k).block ≡ block = eqb-true _ _ found.2 in
          elim (cases_Bool (is_marked s left (slot_at k))) [
            | inl set ↦
                inr (
                  ask_at k,
                  added_there c number key old index free next leaving cleared answers asks plans added slots batch f k some_ask found.1,
                  here,
                  ap (versions_in (held c number left)) (sym here) ∙ is_answered k found.1 set,
                )
            | inr unset ↦
                inl (same_versions block lt (versions_stay s mid left (is_marked s mid) (is_marked s left) fresh step block
                (λ j low_j is now at_block. is_unanswered k found.1 unset j low_j is now (at_block ∙ sym here))))
          ]
    ]

    partly_then : IsPartly (leaving ++ cleared) (answered (listed answers) asks) node old left
    partly_then = record {
      mid = held c number mid;
      less = less mid half.before;
      part = record { config = refl; number = refl; count = count_of c number (is_marked s left) left ∙ sym (count_of c number (is_marked s mid) mid); each = each };
      answers = λ b lt. answer_same s nothing fresh nothing mid left half.marks mid_long b lt refl ∙ answers_same mid half.before b lt;
    }

  pub crash_leaves : (left : List ℕ) → IsMidwayOver s (has_slot leaving) batch.fresh.items old left → IsPartly (leaving ++ cleared) (answered (listed answers) asks) node old left
  crash_leaves left (inl changes) = partly left changes
  crash_leaves left (inr half) = partly_then left half
