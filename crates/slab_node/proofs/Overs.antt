-- The node where marks are taken away and a batch is written.
use Rattle.std.proofs.Common.{◌≡◌, inl, inr, ℕ, suc, ◌<◌, ◌≤◌, ◌==◌, ◌&&◌, Bool, true, false, List, [], ◌∷◌, length, refl, sym, ◌∙◌, ap, subst, arith, eqb, eqb-true}
use Rattle.std.specs.Prelude.{Contains, Option, All, nat_lt}
use Rattle.std.specs.declared.option.Option.TheVariants.{None, Some}
use Rattle.std.proofs.lemmas.Bool.{cases_Bool, false≢true, and_parts, or_parts, or_cases, or_from}
use Rattle.quorum_rules.specs.Limits.{Numbers}
use Rattle.stamp_order.specs.declared.Stamp.{Stamp}
use Rattle.stamp_order.specs.Stamps.{same_stamp}
use Rattle.protocol.specs.Messages.{Version, Ask, Request, Reason}
use Rattle.wire_forms.specs.declared.Request.TheVariants.{Time, Read, Write}
use Rattle.protocol.specs.Setting.{Setting}
use Rattle.protocol.specs.Nodes.{added, added_in, refusal, keeps as keeps_stamp}
use Rattle.protocol.specs.Instance.{setting}
use Rattle.node_core.specs.Seen.{SeenNode, versions_in, accepts_of}
use Rattle.slab_layout.specs.Shapes.{slab_len, is_marked, shape_of}
use Rattle.slab_layout.specs.Heads.{head_in}
use Rattle.slab_node.specs.declared.batch.Fresh.{Fresh}
use Rattle.slab_node.specs.Held.{Entry, entry_at, entry_version, versions_of, held, held_with, with_set}
use Rattle.slab_node.specs.Left.{Agrees, nothing}
use Rattle.slab_node.specs.Changes.{ChangesOnly, IsSubset}
use Rattle.slab_node.specs.Batches.{IsThere, IsMidwayOver, IsWritten, is_in}
use Rattle.slab_node.specs.Answers.{IsBatchWith, IsBatchIn, IsBatchOf, AreAllIn, HaveSlots, entry_of, AreAnsweredInPart, AreAnswered, AreForOthers}
use Rattle.slab_node.specs.Freed.{KeepsSome, none, keeps, drops, IsOf, IsLessSome}
use Rattle.slab_node.proofs.Entries.{entries_same}
use Rattle.slab_node.proofs.lemmas.Batching.{in_batch, is_in_at}
use Rattle.slab_node.proofs.lemmas.Changing.{itself_within, mark_same, head_same, data_same, changes_agree}
use Rattle.slab_node.proofs.lemmas.Node.{held_same, less_left, less_all}
use Rattle.slab_node.proofs.Answering.{answered_left, all_answered}

set_false : (set marked : ℕ → Bool) (k : ℕ) → with_set set marked k ≡ false → marked k ≡ false
set_false set marked k free = elim (cases_Bool (set k)) [
  | inl is ↦ (let never : true ≡ false = rw is at free in absurd (false≢true (sym never)))
  | inr not_set ↦ rw not_set at free
]

out_of_set : (set marked : ℕ → Bool) (k : ℕ) → with_set set marked k ≡ false → set k ≡ false
out_of_set set marked k free = elim (cases_Bool (set k)) [
  | inl is ↦ (let never : true ≡ false = rw is at free in absurd (false≢true (sym never)))
  | inr not_set ↦ not_set
]

set_by_mark : (set marked : ℕ → Bool) (k : ℕ) → marked k ≡ true → with_set set marked k ≡ true
set_by_mark set marked k is = elim (cases_Bool (set k)) [ inl in_set ↦ rw in_set refl | inr not_set ↦ rw not_set is ]

not_within : (few many : ℕ → Bool) → IsSubset few many → (k : ℕ) → many k ≡ false → few k ≡ false
not_within few many within k not_many = elim (cases_Bool (few k)) [ inl is ↦ absurd (false≢true (sym not_many ∙ within k is)) | inr is_not ↦ is_not ]

-- ---- versions that go don't make a node refuse

no_version : (v : Version) → (None ≡ Some v) → ⊥
no_version v e = cc

keeps_fewer : (G : Version → Type 0) (stamp : Stamp) (vs ws : List Version) → KeepsSome G vs ws → keeps_stamp vs stamp ≡ false → keeps_stamp ws stamp ≡ false
keeps_fewer G stamp _ _ none not_kept = refl
keeps_fewer G stamp _ _ (keeps x xs ys some) not_kept =
    let parts = or_parts (same_stamp x.stamp stamp) (keeps_stamp xs stamp) not_kept in
    or_from _ _ parts.0 (keeps_fewer G stamp xs ys some parts.1)
keeps_fewer G stamp _ _ (drops x xs ys go some) not_kept =
    keeps_fewer G stamp xs ys some (or_parts (same_stamp x.stamp stamp) (keeps_stamp xs stamp) not_kept).1

added_fewer : (G : Version → Type 0) (reason : Option Reason) (vs ws : List Version) (u v : Version) → KeepsSome G vs ws → added reason vs u ≡ Some v → added reason ws u ≡ Some v
added_fewer G (Some reason) vs ws u v some is = absurd (no_version v is)
added_fewer G None vs ws u v some is = elim (cases_Bool (keeps_stamp vs u.stamp)) [
  | inl kept ↦ (let never : None ≡ Some v = rw kept at is in absurd (no_version v never))
  | inr not_kept ↦
      let it : Some u ≡ Some v = rw not_kept at is in
      rw (keeps_fewer G u.stamp vs ws some not_kept) it
]

added_in_fewer : (s : Setting) (i : ℕ) (G : Version → Type 0) (vs ws : List Version) (r : Request) (v : Version) → KeepsSome G vs ws → added_in s i vs r ≡ Some v → added_in s i ws r ≡ Some v
added_in_fewer s i G vs ws Time v some is = absurd (no_version v is)
added_in_fewer s i G vs ws (Read bound) v some is = absurd (no_version v is)
added_in_fewer s i G vs ws (Write u) v some is = added_fewer G (refusal s i u) vs ws u v some is

module _ (c : Numbers) (number : ℕ) (set : ℕ → Bool) (bytes : List ℕ) (long : slab_len (shape_of c) ≤ length bytes) where
  fewer : IsLessSome c set bytes (held_with c number set bytes) (held c number bytes)
  fewer = less_all c number bytes bytes long set

  accepts_fewer : (ask : Ask) (v : Version) → accepts_of (held_with c number set bytes) ask ≡ Some v → accepts_of (held c number bytes) ask ≡ Some v
  accepts_fewer ask v is = elim (cases_Bool (nat_lt ask.block c.blocks)) [
    | inl lt ↦
        let below : ask.block < c.blocks = grind arith in
        let was : added_in (setting c) number (versions_in (held_with c number set bytes) ask.block) ask.request ≡ Some v = rw lt at is in
        let now : added_in (setting c) number (versions_in (held c number bytes) ask.block) ask.request ≡ Some v =
        added_in_fewer (setting c) number (IsOf c set bytes ask.block) (versions_in (held_with c number set bytes) ask.block) (versions_in (held c number bytes) ask.block) ask.request v (fewer.each ask.block below) was in
        rw lt now
    | inr ge ↦ (let never : None ≡ Some v = rw ge at is in absurd (no_version v never))
  ]

  -- so a batch where versions of the set count is one where they don't
  pub batch_of_fewer : (asks : List Ask) (new : ℕ → Bool) → IsBatchWith c number set bytes asks new → IsBatchIn c number bytes asks new
  batch_of_fewer asks new batch = record {
    unmarked = λ j lt is_new. set_false set (is_marked (shape_of c) bytes) j (batch.unmarked j lt is_new);
    last = λ j k low lt is_new counts here. batch.last j k low lt is_new (set_by_mark set (is_marked (shape_of c) bytes) k counts) here;
    distinct = batch.distinct;
    asked = λ j lt is_new. (let its = batch.asked j lt is_new in (its.0, its.1, its.2, accepts_fewer its.0 (entry_version c.n (entry_at (shape_of c) bytes j)) its.3));
  }

-- ---- the slots of a batch

pub found_in : (fs : List Fresh) (j : ℕ) → is_in fs j ≡ true → (f : Fresh) × Contains fs f × (f.slot ≡ j)
found_in [] j never = absurd (false≢true never)
found_in (f ∷ fs) j is = elim (or_cases (eqb f.slot j) (is_in fs j) is) [
  | inl here ↦ (f, (0, omega arith, refl), eqb-true _ _ here)
  | inr there ↦ (let rest = found_in fs j there in (rest.0, (suc rest.1.0, omega (arith, rest.1.1), rest.1.2), rest.2))
]

pub is_in_by : (fs : List Fresh) (f : Fresh) → Contains fs f → is_in fs f.slot ≡ true
is_in_by fs f at = subst (λ (x : Fresh). is_in fs x.slot ≡ true) at.2 (is_in_at fs at.0 f at.1)

pub all_at : (P : Fresh → Type 0) (fs : List Fresh) (f : Fresh) → All P fs → Contains fs f → P f
all_at P fs f all at = subst P at.2 (all at.0 f at.1)

-- ---- bytes that changed

module _ (c : Numbers) (number : ℕ) (bodies marks answers : ℕ → Bool) (old left : List ℕ) (changes : ChangesOnly (shape_of c) bodies marks answers old left) (long : slab_len (shape_of c) ≤ length old) where
  pub entry_kept : (k : ℕ) → k < (shape_of c).count → bodies k ≡ false → entry_at (shape_of c) left k ≡ entry_at (shape_of c) old k
  entry_kept k lt firm = λ j. record {
    head = head_in (head_same (shape_of c) bodies marks answers old left changes long k lt firm j);
    bytes = data_same (shape_of c) bodies marks answers old left changes long k lt firm j;
  }

  module _ (set : ℕ → Bool) (within : IsSubset marks set) where
    count_kept : (k : ℕ) → k < (shape_of c).count → with_set set (is_marked (shape_of c) left) k ≡ with_set set (is_marked (shape_of c) old) k
    count_kept k lt = elim (cases_Bool (set k)) [
      | inl is ↦ rw is refl
      | inr not_set ↦ rw not_set (mark_same (shape_of c) bodies marks answers old left changes long k lt (not_within marks set within k not_set))
    ]

    module _ (free : (i : ℕ) → i < (shape_of c).count → bodies i ≡ true → with_set set (is_marked (shape_of c) old) i ≡ false) where
      body_kept : (k : ℕ) → k < (shape_of c).count → with_set set (is_marked (shape_of c) old) k ≡ true → entry_at (shape_of c) left k ≡ entry_at (shape_of c) old k
      body_kept k lt counted = elim (cases_Bool (bodies k)) [
        | inl written ↦ absurd (false≢true (sym (free k lt written) ∙ counted))
        | inr firm ↦ entry_kept k lt firm
      ]

      pub uncounted : held_with c number set left ≡ held_with c number set old
      uncounted =
          held_same c number (with_set set (is_marked (shape_of c) old)) (with_set set (is_marked (shape_of c) left)) old left
          (λ b. ap (versions_of c.n) (entries_same (with_set set (is_marked (shape_of c) old)) (with_set set (is_marked (shape_of c) left)) (entry_at (shape_of c) old) (entry_at (shape_of c) left) b 0 (shape_of c).count
          (λ k low high. elim (cases_Bool (with_set set (is_marked (shape_of c) old) k)) [
            | inl counted ↦
                let lt : k < (shape_of c).count = omega (arith, high) in
                ap (λ m. m && ((entry_at (shape_of c) left k).head.block == b)) (count_kept k lt) ∙ ap (λ (e : Entry). with_set set (is_marked (shape_of c) old) k && (e.head.block == b)) (body_kept k lt counted)
            | inr free_one ↦ (let lt : k < (shape_of c).count = omega (arith, high) in rw (count_kept k lt ∙ free_one) (rw free_one refl))
          ])
          (λ k low high hit. body_kept k (omega (arith, high)) (and_parts _ _ hit).0)))

-- ---- a batch

module _ (c : Numbers) (number : ℕ) (set going : ℕ → Bool) (old : List ℕ) (asks : List Ask) (batch : List Fresh) (within : IsSubset going set) (its : IsBatchOf c number set old asks batch)
    (long : slab_len (shape_of c) ≤ length old) where
  free_slot : (j : ℕ) → is_in batch j ≡ true → with_set set (is_marked (shape_of c) old) j ≡ false
  free_slot j is = (let f = found_in batch j is in subst (λ (k : ℕ). with_set set (is_marked (shape_of c) old) k ≡ false) f.2 (its.free f.0 f.1))

  agrees_with_old : (left : List ℕ) → ChangesOnly (shape_of c) (is_in batch) going nothing old left → Agrees (shape_of c) set nothing old left
  agrees_with_old left changes =
      changes_agree (shape_of c) (is_in batch) going nothing set nothing old left
      (λ i lt is. record {
        below = lt;
        unmarked = set_false set (is_marked (shape_of c) old) i (free_slot i is);
        firm = out_of_set set (is_marked (shape_of c) old) i (free_slot i is);
      })
      within (itself_within nothing) changes

  module _ (mid : List ℕ) (changes : ChangesOnly (shape_of c) (is_in batch) going nothing old mid) (there : All (λ f. IsThere (shape_of c) mid f) batch) where
    node_same : held_with c number set mid ≡ held_with c number set old
    node_same = uncounted c number (is_in batch) going nothing old mid changes long set within (λ i lt is. free_slot i is)

    entry_new : (f : Fresh) → Contains batch f → entry_at (shape_of c) mid f.slot ≡ entry_of f
    entry_new f at = (let is = all_at (λ f. IsThere (shape_of c) mid f) batch f there at in λ j. record { head = head_in (is.head j); bytes = is.body j })

    entry_at_slot : (f : Fresh) (j : ℕ) → Contains batch f → f.slot ≡ j → entry_at (shape_of c) mid j ≡ entry_of f
    entry_at_slot f j at here = ap (entry_at (shape_of c) mid) (sym here) ∙ entry_new f at

    counted_entry : (k : ℕ) → k < (shape_of c).count → with_set set (is_marked (shape_of c) mid) k ≡ true → (with_set set (is_marked (shape_of c) old) k ≡ true) × (entry_at (shape_of c) mid k ≡ entry_at (shape_of c) old k)
    counted_entry k lt counted =
        let was = sym (count_kept c number (is_in batch) going nothing old mid changes long set within k lt) ∙ counted in
        (was, body_kept c number (is_in batch) going nothing old mid changes long set within (λ i low is. free_slot i is) k lt was)

    pub batch_in : IsBatchWith c number set mid asks (is_in batch)
    batch_in = record {
      unmarked = λ j lt is. count_kept c number (is_in batch) going nothing old mid changes long set within j lt ∙ free_slot j is;
      last = λ j k low lt is counted here.
          let f = found_in batch j is in
          let was = counted_entry k lt counted in
          let new_entry : entry_at (shape_of c) mid j ≡ entry_of f.0 = entry_at_slot f.0 j f.1 f.2 in
          let same_block : (entry_at (shape_of c) old k).head.block ≡ (entry_of f.0).head.block =
          ap (λ (e : Entry). e.head.block) (sym was.1) ∙ here ∙ ap (λ (e : Entry). e.head.block) new_entry in
          let less = its.last f.0 k f.1 lt was.0 same_block in
          let of_k : (entry_at (shape_of c) mid k).head.number ≡ (entry_at (shape_of c) old k).head.number = ap (λ (e : Entry). e.head.number) was.1 in
          let of_j : (entry_at (shape_of c) mid j).head.number ≡ (entry_of f.0).head.number = ap (λ (e : Entry). e.head.number) new_entry in
          subst (λ (n : ℕ). (entry_at (shape_of c) mid k).head.number < n) (sym of_j) (subst (λ (n : ℕ). n < (entry_of f.0).head.number) (sym of_k) less);
      distinct = λ block i j low lt is_i is_j here_i here_j.
          let f = found_in batch i is_i in
          let g = found_in batch j is_j in
          let block_f : (entry_of f.0).head.block ≡ block = ap (λ (e : Entry). e.head.block) (sym (entry_at_slot f.0 i f.1 f.2)) ∙ here_i in
          let block_g : (entry_of g.0).head.block ≡ block = ap (λ (e : Entry). e.head.block) (sym (entry_at_slot g.0 j g.1 g.2)) ∙ here_j in
          sym f.2 ∙ its.distinct f.0 g.0 f.1 g.1 (block_f ∙ sym block_g) ∙ g.2;
      asked = λ j lt is.
          let f = found_in batch j is in
          let ask = its.asked f.0 f.1 in
          let new_entry : entry_at (shape_of c) mid j ≡ entry_of f.0 = entry_at_slot f.0 j f.1 f.2 in (
            ask.0,
            ask.1,
            ask.2 ∙ ap (λ (e : Entry). e.head.block) (sym new_entry),
            ap (λ (n : SeenNode). accepts_of n ask.0) node_same ∙ ask.3 ∙ ap (λ (e : Entry). Some (entry_version c.n e)) (sym new_entry),
          );
    }

    pub slots_in : AreAllIn c number set old asks batch → HaveSlots c number set mid asks (is_in batch)
    slots_in all ask v there_ask some =
        let f = all ask v there_ask (ap (λ (n : SeenNode). accepts_of n ask) (sym node_same) ∙ some) in
        (f.0.slot, its.below f.0 f.1, is_in_by batch f.0 f.1, ap (λ (e : Entry). e.head.block) (entry_new f.0 f.1) ∙ f.2)

    -- then marks of it were written
    module _ (left : List ℕ) (marks : ChangesOnly (shape_of c) nothing (is_in batch) nothing mid left) where
      long_mid : slab_len (shape_of c) ≤ length mid
      long_mid = omega (arith, long, changes.no_shorter)

      had_all : (k : ℕ) → k < (shape_of c).count → entry_at (shape_of c) left k ≡ entry_at (shape_of c) mid k
      had_all k lt = entry_kept c number nothing (is_in batch) nothing mid left marks long_mid k lt refl

      firm_mark : (k : ℕ) → k < (shape_of c).count → is_in batch k ≡ false → is_marked (shape_of c) left k ≡ is_marked (shape_of c) mid k
      firm_mark k lt firm = mark_same (shape_of c) nothing (is_in batch) nothing mid left marks long_mid k lt firm

      pub answered_from : AreAnsweredInPart asks (held c number mid) (held c number left)
      answered_from =
          answered_left c number nothing mid asks (is_in batch) (batch_of_fewer c number set mid long_mid asks (is_in batch) batch_in) left (is_marked (shape_of c) left)
          (λ k lt now. had_all k lt) firm_mark

      firm_count : (k : ℕ) → k < (shape_of c).count → is_in batch k ≡ false → with_set set (is_marked (shape_of c) left) k ≡ with_set set (is_marked (shape_of c) mid) k
      firm_count k lt firm = elim (cases_Bool (set k)) [ inl is ↦ rw is refl | inr not_set ↦ rw not_set (firm_mark k lt firm) ]

      pub answered_whole : AreForOthers asks → AreAllIn c number set old asks batch → All (λ f. is_marked (shape_of c) left f.slot ≡ true) batch
          → AreAnswered asks (held_with c number set old) (held_with c number set left)
      answered_whole apart all marked =
          subst (λ (n : SeenNode). AreAnswered asks n (held_with c number set left)) node_same
          (all_answered c number set mid asks (is_in batch) batch_in left (with_set set (is_marked (shape_of c) left)) (λ k lt now. had_all k lt) firm_count apart (slots_in all)
          (λ k lt is. set_by_mark set (is_marked (shape_of c) left) k (in_batch (shape_of c) left batch k is marked)))

  pub midway : (left : List ℕ) → IsMidwayOver (shape_of c) going batch old left
      → (node : SeenNode) × IsLessSome c set old (held_with c number set old) node × AreAnsweredInPart asks node (held c number left)
  midway left (inl changes) = (
    held c number left,
    less_left c number old left long set nothing (agrees_with_old left changes),
    record { config = refl; number = refl; count = refl; each = λ block lt. inl refl },
  )
  midway left (inr half) = (
    held c number half.mid,
    less_left c number old half.mid long set nothing (agrees_with_old half.mid half.before),
    answered_from half.mid half.before half.there left half.marks,
  )

  pub whole : (left : List ℕ) → AreForOthers asks → AreAllIn c number set old asks batch → IsWritten (shape_of c) going batch old left
      → AreAnswered asks (held_with c number set old) (held_with c number set left)
  whole left apart all w = answered_whole w.half.mid w.half.before w.half.there left w.half.marks apart all w.marked
