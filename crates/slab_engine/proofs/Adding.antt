-- What is known of a batch of versions that is to be added.
use Rattle.std.proofs.Common.{◌≡◌, inl, inr, ℕ, suc, ◌+◌, ◌<◌, ◌==◌, Bool, true, false, not, List, [], ◌∷◌, length, get_or, refl, sym, ◌∙◌, ap, subst, arith, eqb-true}
use Rattle.std.specs.Prelude.{All}
use Rattle.std.proofs.lemmas.Bool.{cases_Bool, cases_lt, false≢true}
use Rattle.quorum_rules.specs.Limits.{Numbers}
use Rattle.protocol.specs.Messages.{Ask}
use Rattle.slab_layout.specs.Shapes.{shape_of, part, head_at, data_at, data_len}
use Rattle.slab_layout.specs.Heads.{head_in}
use Rattle.slab_layout.specs.Data.{version_in}
use Rattle.slab_layout.proofs.lemmas.Codec.{head_of_bytes, data_back}
use Rattle.slab_node.specs.declared.batch.Fresh.{Fresh}
use Rattle.slab_node.specs.Batches.{IsThere, is_in}
use Rattle.slab_node.specs.Answers.{AtMostOne}
use Rattle.slab_node.proofs.lemmas.Batching.{is_in_at}
use Rattle.slab_index.specs.declared.kept.Kept.{Kept}
use Rattle.slab_index.specs.Slots.{head_of, kept_of, version_at}
use Rattle.slab_engine.specs.declared.batch.NewSlots.{NewSlots}
use Rattle.slab_engine.specs.declared.batch.Batch.{Batch}
use Rattle.slab_engine.specs.Seen.{Leaving, counted, listed, AreApart}
use Rattle.slab_engine.specs.Whole.{Tells}
use Rattle.slab_engine.specs.Batches.{ArePicked, IsBatchOf, IsAddedBy, head_for}

-- a slot of the batch is one of these
pub in_list : (fs : List Fresh) (j : ℕ) → is_in fs j ≡ true → (k : ℕ) × (k < length fs) × ((d : Fresh) → (get_or fs k d).slot ≡ j)
in_list [] j is = absurd (false≢true is)
in_list (f ∷ fs) j is = elim (cases_Bool (f.slot == j)) [
  | inl it ↦ (0, omega arith, λ d. eqb-true _ _ it)
  | inr other ↦
      let rest : is_in fs j ≡ true = rw other at is in
      let found = in_list fs j rest in
      (suc found.0, omega (arith, found.1), found.2)
]

module _ (c : Numbers) (key : ℕ) (index : List (List Kept)) (asks : List Ask) (added slots : List ℕ) (next : ℕ) (batch : Batch) (free : List Bool)
    (made : IsBatchOf c key index asks added slots next batch) (picked : ArePicked free slots (length added)) (some_ask : Ask) (some_fresh : Fresh) (some_new : NewSlots) where
  abbrev fresh : ℕ → Bool
  fresh = is_in batch.fresh.items

  abbrev ask_at : ℕ → Ask
  ask_at k = get_or asks (get_or added k 0) some_ask

  abbrev slot_at : ℕ → ℕ
  slot_at k = get_or slots k 0

  abbrev pub its : (k : ℕ) → k < length added → IsAddedBy c key index (ask_at k) (slot_at k) (next + k) (get_or batch.fresh.items k some_fresh) (get_or batch.new.items k some_new)
  its k lt = made.each k some_ask some_fresh some_new lt

  -- a fresh slot is that of one of the asks
  pub fresh_of : (j : ℕ) → fresh j ≡ true → (k : ℕ) × (k < length added) × (slot_at k ≡ j)
  fresh_of j is =
      let found = in_list batch.fresh.items j is in
      let lt : found.0 < length added = omega (arith, found.1, made.fresh_count) in
      (found.0, lt, sym (its found.0 lt).fresh.slot ∙ found.2 some_fresh)

  pub fresh_at : (k : ℕ) → k < length added → fresh (slot_at k) ≡ true
  fresh_at k lt =
      let here : k < length batch.fresh.items = omega (arith, lt, made.fresh_count) in
      subst (λ (j : ℕ). fresh j ≡ true) (its k lt).fresh.slot (is_in_at batch.fresh.items k some_fresh here)

  pub below_count : (k : ℕ) → k < length added → slot_at k < (shape_of c).count
  below_count k lt = (let low = (its k lt).fresh.sizes.slot in let is = (its k lt).fresh.slot in omega (arith, low, is))

  module _ (old : List ℕ) (leaving cleared : List Leaving) (tells : Tells c old index free next leaving cleared) where
    -- it doesn't count yet
    pub fresh_uncounted : (j : ℕ) → j < (shape_of c).count → fresh j ≡ true → counted c cleared old j ≡ false
    fresh_uncounted j lt is =
        let found = fresh_of j is in
        let here : found.0 < length slots = omega (arith, found.1, picked.count) in
        let free_slot : listed free (slot_at found.0) ≡ true = (picked.each found.0 0 here).1 in
        let free_here : listed free j ≡ true = subst (λ (i : ℕ). listed free i ≡ true) found.2 free_slot in
        uncounted (counted c cleared old j) (sym (tells.free j lt) ∙ free_here)
      where
        uncounted : (b : Bool) → not b ≡ true → b ≡ false
        uncounted true h = absurd (cc)
        uncounted false h = refl

  -- the asks are apart, so are the blocks of fresh slots
  module _ (apart : AreApart asks) (ascend : (i j d : ℕ) → i < j → j < length added → get_or added i d < get_or added j d) (low : (k : ℕ) → k < length added → get_or added k 0 < length asks) where
    same_place : (i k : ℕ) → i < length added → k < length added → get_or added i 0 ≡ get_or added k 0 → i ≡ k
    same_place i k li lk e = elim (cases_lt i k) [
      | inl lt ↦ (let up = ascend i k 0 lt lk in absurd (omega (arith, up, e)))
      | inr ge ↦ elim (cases_lt k i) [
        | inl gt ↦ (let up = ascend k i 0 gt li in absurd (omega (arith, up, e)))
        | inr le ↦ omega (arith, ge, le)
      ]
    ]

    pub same_block : (i k : ℕ) → i < length added → k < length added → (ask_at i).block ≡ (ask_at k).block → i ≡ k
    same_block i k li lk e = same_place i k li lk (apart (get_or added i 0) (get_or added k 0) some_ask (low i li) (low k lk) e)

    module _ (new : List ℕ) (there : All (λ f. IsThere (shape_of c) new f) batch.fresh.items) where
      there_at : (k : ℕ) → k < length added → IsThere (shape_of c) new (get_or batch.fresh.items k some_fresh)
      there_at k lt = there k some_fresh (omega (arith, lt, made.fresh_count))

      -- the head of a fresh slot
      pub head_then : (k : ℕ) (lt : k < length added) → head_of (shape_of c) new (slot_at k) ≡ head_for key (ask_at k).block (its k lt).version (next + k)
      head_then k lt =
          let it = its k lt in
          let at : part new (head_at (shape_of c) (slot_at k)) 72 ≡ (get_or batch.fresh.items k some_fresh).head.items =
          subst (λ (j : ℕ). part new (head_at (shape_of c) j) 72 ≡ (get_or batch.fresh.items k some_fresh).head.items) it.fresh.slot (there_at k lt).head in
          ap head_in (at ∙ it.fresh.head) ∙ head_of_bytes key (head_for key (ask_at k).block it.version (next + k)) it.fresh.place

      -- and its version
      pub version_then : (k : ℕ) (lt : k < length added) → version_at (shape_of c) new (kept_of (slot_at k) (head_of (shape_of c) new (slot_at k))) ≡ (its k lt).version
      version_then k lt =
          let it = its k lt in
          let at : part new (data_at (shape_of c) (slot_at k)) (data_len (shape_of c)) ≡ (get_or batch.fresh.items k some_fresh).data.items =
          subst (λ (j : ℕ). part new (data_at (shape_of c) j) (data_len (shape_of c)) ≡ (get_or batch.fresh.items k some_fresh).data.items) it.fresh.slot (there_at k lt).body in
          (λ i. version_in c.n (head_then k lt i).stamp ((at ∙ it.fresh.body) i)) ∙ data_back c.n it.version it.fresh.digests

      pub block_then : (k : ℕ) (lt : k < length added) → (head_of (shape_of c) new (slot_at k)).block ≡ (ask_at k).block
      block_then k lt = ap (λ h. h.block) (head_then k lt)

      pub number_then : (k : ℕ) (lt : k < length added) → (head_of (shape_of c) new (slot_at k)).number ≡ next + k
      number_then k lt = ap (λ h. h.number) (head_then k lt)

      -- no two fresh slots are of one block
      pub distinct_then : (block : ℕ) → AtMostOne (shape_of c) fresh new block
      distinct_then block i j li lj is_i is_j here_i here_j =
          let fi = fresh_of i is_i in
          let fj = fresh_of j is_j in
          let bi : (ask_at fi.0).block ≡ block = sym (block_then fi.0 fi.1) ∙ ap (λ n. (head_of (shape_of c) new n).block) fi.2 ∙ here_i in
          let bj : (ask_at fj.0).block ≡ block = sym (block_then fj.0 fj.1) ∙ ap (λ n. (head_of (shape_of c) new n).block) fj.2 ∙ here_j in
          let same : fi.0 ≡ fj.0 = same_block fi.0 fj.0 fi.1 fj.1 (bi ∙ sym bj) in
          sym fi.2 ∙ ap (λ k. slot_at k) same ∙ fj.2
