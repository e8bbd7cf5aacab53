-- The node that a batch leaves.
use Rattle.std.proofs.Common.{◌≡◌, ◌⊎◌, inl, inr, ℕ, ◌<◌, ◌==◌, ◌&&◌, Bool, true, false, List, [], ◌∷◌, ◌++◌, refl, sym, ◌∙◌, ap, subst, arith, eqb-true, eq-eqb}
use Rattle.std.specs.Prelude.{Contains, Option}
use Rattle.std.specs.declared.option.Option.TheVariants.{None, Some}
use Rattle.std.proofs.lemmas.Bool.{cases_Bool, false≢true, and_parts, and_from}
use Rattle.quorum_rules.specs.Limits.{Numbers}
use Rattle.protocol.specs.Messages.{Version, Ask}
use Rattle.protocol.specs.Nodes.{first_version}
use Rattle.protocol.specs.Instance.{setting}
use Rattle.protocol.specs.Count.{one_more}
use Rattle.node_core.specs.Seen.{SeenNode, versions_in, after_of, accepts_of}
use Rattle.slab_layout.specs.Shapes.{is_marked, shape_of}
use Rattle.slab_node.specs.Held.{Entry, entry_at, entry_version, counts, entries_from, entries, versions, versions_of, held_by, held_with, with_set}
use Rattle.slab_node.specs.Answers.{IsAnsweredOrNot, AreAnsweredInPart, AreAnswered, AreForOthers, HaveSlots, IsBatchWith}
use Rattle.slab_node.proofs.Entries.{find, entries_same}
use Rattle.slab_node.proofs.lemmas.Node.{versions_at, count_of}
use Rattle.slab_node.proofs.Order.{AreBelow, versions_one, with_one, are_below}

-- where the slots that count have what they had, the entries are those
entries_had : (now : ℕ → Bool) (e e' : ℕ → Entry) (block n : ℕ) → ((k : ℕ) → k < n → now k ≡ true → e' k ≡ e k) → entries_from now e' block 0 n ≡ entries_from now e block 0 n
entries_had now e e' block n had =
    entries_same now now e e' block 0 n
    (λ k low high. elim (cases_Bool (now k)) [ inl is ↦ ap (λ (x : Entry). now k && (x.head.block == block)) (had k (omega (arith, high)) is) | inr miss ↦ rw miss refl ])
    (λ k low high hit. had k (omega (arith, high)) (and_parts _ _ hit).0)

both_false : (a b : Bool) → (a && false) ≡ (b && false)
both_false true true = refl
both_false true false = refl
both_false false true = refl
both_false false false = refl

counted_same : (m' m : ℕ → Bool) (e : ℕ → Entry) (block n : ℕ) → ((k : ℕ) → k < n → counts m' e block k ≡ counts m e block k) → entries_from m' e block 0 n ≡ entries_from m e block 0 n
counted_same m' m e block n alike = entries_same m m' e e block 0 n (λ k low high. alike k (omega (arith, high))) (λ k low high hit. refl)

none_some : (v : Version) → (None ≡ Some v) → ⊥
none_some v e = cc

module _ (c : Numbers) (number : ℕ) (set : ℕ → Bool) (old : List ℕ) (asks : List Ask) (new : ℕ → Bool) (batch : IsBatchWith c number set old asks new) where
  abbrev was : ℕ → Bool
  was = with_set set (is_marked (shape_of c) old)

  abbrev has : ℕ → Entry
  has = entry_at (shape_of c) old

  -- where the slot of a block is marked too, its version is the last one
  module _ (block j : ℕ) (lt : j < (shape_of c).count) (is_new : new j ≡ true) (here : (has j).head.block ≡ block) where
    abbrev with_j : ℕ → Bool
    with_j = with_set (λ k. k == j) was

    newly : counts with_j has block j ≡ true
    newly = rw (eq-eqb j j refl) (eq-eqb _ _ here)

    not_yet : counts was has block j ≡ false
    not_yet = rw (batch.unmarked j lt is_new) refl

    others : (k : ℕ) → (k ≡ j → ⊥) → counts with_j has block k ≡ counts was has block k
    others k other = elim (cases_Bool (k == j)) [ inl same ↦ absurd (other (eqb-true k j same)) | inr differs ↦ rw differs refl ]

    all_below : AreBelow (has j).head.number (entries (shape_of c) was old block)
    all_below = are_below was has block (has j).head.number (shape_of c).count
        (λ k low hit. let parts = and_parts _ _ hit in batch.last j k lt low is_new parts.0 (eqb-true _ _ parts.1 ∙ sym here))

    one_more_version : versions (shape_of c) with_j old block ≡ versions (shape_of c) was old block ++ entry_version c.n (has j) ∷ []
    one_more_version =
        versions_one c.n (has j) (entries (shape_of c) was old block) (entries_from with_j has block 0 (shape_of c).count)
        (with_one was with_j has block j newly not_yet others 0 (shape_of c).count (omega arith) (omega (arith, lt))) all_below

    -- the marks are those from before and that one, as far as the block goes
    module _ (now : ℕ → Bool) (firm : (k : ℕ) → k < (shape_of c).count → new k ≡ false → now k ≡ was k) (is_set : now j ≡ true) where
      alike : (k : ℕ) → k < (shape_of c).count → counts now has block k ≡ counts with_j has block k
      alike k low = elim (cases_Bool (new k)) [
        | inl also ↦ elim (cases_Bool ((has k).head.block == block)) [
          | inl same ↦
              let it : k ≡ j = batch.distinct block k j low lt also is_new (eqb-true _ _ same) here in
              rw it (rw is_set (rw (eq-eqb j j refl) refl))
          | inr other ↦ rw other (both_false (now k) (with_j k))
        ]
        | inr old_one ↦
            let differs : (k == j) ≡ false = elim (cases_Bool (k == j)) [ inl same ↦ absurd (false≢true (sym old_one ∙ ap new (eqb-true k j same) ∙ is_new)) | inr d ↦ d ] in
            rw differs (rw (firm k low old_one) refl)
      ]

      pub versions_then : versions (shape_of c) now old block ≡ versions (shape_of c) was old block ++ entry_version c.n (has j) ∷ []
      versions_then = ap (versions_of c.n) (counted_same now with_j has block (shape_of c).count alike) ∙ one_more_version

  -- no slot of the batch is of the block, or one is
  one_of_block : (block : ℕ) → ((j : ℕ) × (j < (shape_of c).count) × (new j ≡ true) × ((has j).head.block ≡ block)) ⊎ ((k : ℕ) → k < (shape_of c).count → (has k).head.block ≡ block → new k ≡ false)
  one_of_block block = elim (find (λ k. new k && ((has k).head.block == block)) (shape_of c).count) [
    | inl found ↦ (let parts = and_parts _ _ found.2 in inl (found.0, found.1, parts.0, eqb-true _ _ parts.1))
    | inr none ↦ inr (λ k lt here. elim (cases_Bool (new k)) [ inl is_new ↦ absurd (false≢true (sym (none k lt) ∙ and_from _ _ is_new (eq-eqb _ _ here))) | inr firm ↦ firm ])
  ]

  -- where marks of the block are as they were, so are its versions
  module _ (block : ℕ) (now : ℕ → Bool) (firm : (k : ℕ) → k < (shape_of c).count → (has k).head.block ≡ block → now k ≡ was k) where
    alike_here : (k : ℕ) → k < (shape_of c).count → counts now has block k ≡ counts was has block k
    alike_here k lt = elim (cases_Bool ((has k).head.block == block)) [
      | inl here ↦ rw (firm k lt (eqb-true _ _ here)) refl
      | inr other ↦ rw other (both_false (now k) (was k))
    ]

    pub versions_still : versions (shape_of c) now old block ≡ versions (shape_of c) was old block
    versions_still = ap (versions_of c.n) (counted_same now was has block (shape_of c).count alike_here)

  -- these slots count now, and have what they had
  module _ (left : List ℕ) (now : ℕ → Bool) (had : (k : ℕ) → k < (shape_of c).count → now k ≡ true → entry_at (shape_of c) left k ≡ has k)
      (firm_marks : (k : ℕ) → k < (shape_of c).count → new k ≡ false → now k ≡ was k) where
    abbrev now_node : SeenNode
    now_node = held_by (shape_of c) now c number left

    abbrev was_node : SeenNode
    was_node = held_with c number set old

    versions_left : (block : ℕ) → block < c.blocks → versions_in now_node block ≡ first_version (setting c) number ∷ versions (shape_of c) now old block
    versions_left block lt =
        versions_at c number now left block lt
        ∙ ap (λ es. first_version (setting c) number ∷ versions_of c.n es) (entries_had now has (entry_at (shape_of c) left) block (shape_of c).count had)

    versions_before : (block : ℕ) → block < c.blocks → versions_in was_node block ≡ first_version (setting c) number ∷ versions (shape_of c) was old block
    versions_before block lt = versions_at c number was old block lt

    as_before : (block : ℕ) → block < c.blocks → ((k : ℕ) → k < (shape_of c).count → (has k).head.block ≡ block → now k ≡ was k) → versions_in now_node block ≡ versions_in was_node block
    as_before block lt firm = versions_left block lt ∙ ap (λ vs. first_version (setting c) number ∷ vs) (versions_still block now firm) ∙ sym (versions_before block lt)

    -- where the mark of a slot is set, the ask for its block is answered
    after_ask : (block j : ℕ) → block < c.blocks → (low : j < (shape_of c).count) → (is_new : new j ≡ true) → (has j).head.block ≡ block → now j ≡ true
        → (ask : Ask) × Contains asks ask × (ask.block ≡ block) × (versions_in now_node block ≡ after_of was_node ask)
    after_ask block j lt low is_new here is_set =
        let its = batch.asked j low is_new in
        let v : Version = entry_version c.n (has j) in
        let first : Version = first_version (setting c) number in
        let same : its.0.block ≡ block = its.2 ∙ here in
        let now_is : versions (shape_of c) now old block ≡ versions (shape_of c) was old block ++ v ∷ [] = versions_then block j low is_new here now firm_marks is_set in
        let after : after_of was_node its.0 ≡ (first ∷ versions (shape_of c) was old block) ++ v ∷ [] =
        ap (one_more (versions_in was_node its.0.block)) its.3
        ∙ ap (λ vs. vs ++ v ∷ []) (ap (versions_in was_node) same ∙ versions_before block lt) in
        (its.0, its.1, same, versions_left block lt ∙ ap (λ vs. first ∷ vs) now_is ∙ sym after)

    answered : (block : ℕ) → block < c.blocks → IsAnsweredOrNot asks was_node now_node block
    answered block lt = elim (one_of_block block) [
      | inr firm ↦ inl (as_before block lt (λ k low here. firm_marks k low (firm k low here)))
      | inl found ↦ elim (cases_Bool (now found.0)) [
        | inl is_set ↦ inr (after_ask block found.0 lt found.1 found.2 found.3 is_set)
        | inr unset ↦ inl (as_before block lt (λ k low here. elim (cases_Bool (new k)) [
          | inl also ↦
              let it : k ≡ found.0 = batch.distinct block k found.0 low found.1 also found.2 here found.3 in
              rw it (unset ∙ sym (batch.unmarked found.0 found.1 found.2))
          | inr old_one ↦ firm_marks k low old_one
        ]))
      ]
    ]

    pub answered_left : AreAnsweredInPart asks was_node now_node
    answered_left = record {
      config = refl;
      number = refl;
      count = count_of c number now left ∙ sym (count_of c number was old);
      each = answered;
    }

    -- where every ask that adds a version has a slot, and all marks are set
    module _ (apart : AreForOthers asks) (slots : HaveSlots c number set old asks new) (all_set : (k : ℕ) → k < (shape_of c).count → new k ≡ true → now k ≡ true) where
      -- no slot of the batch is of a block whose ask adds nothing
      none_new : (ask : Ask) → Contains asks ask → accepts_of was_node ask ≡ None → (k : ℕ) → k < (shape_of c).count → (has k).head.block ≡ ask.block → new k ≡ false
      none_new ask there none k lt here = elim (cases_Bool (new k)) [
        | inl is_new ↦
            let its = batch.asked k lt is_new in
            let same : its.0 ≡ ask = apart its.0 ask its.1 there (its.2 ∙ here) in
            let v : Version = entry_version c.n (has k) in
            let some : accepts_of was_node ask ≡ Some v = subst (λ (a : Ask). accepts_of was_node a ≡ Some v) same its.3 in
            absurd (none_some v (sym none ∙ some))
        | inr firm ↦ firm
      ]

      by_accepts : (ask : Ask) → Contains asks ask → ask.block < c.blocks → (o : Option Version) → accepts_of was_node ask ≡ o → versions_in now_node ask.block ≡ after_of was_node ask
      by_accepts ask there lt None none =
          as_before ask.block lt (λ k low here. firm_marks k low (none_new ask there none k low here))
          ∙ sym (ap (one_more (versions_in was_node ask.block)) none)
      by_accepts ask there lt (Some v) some =
          let slot = slots ask v there some in
          let done = after_ask ask.block slot.0 lt slot.1 slot.2 slot.3 (all_set slot.0 slot.1 slot.2) in
          let same : done.0 ≡ ask = apart done.0 ask done.1 there done.2 in
          subst (λ (a : Ask). versions_in now_node ask.block ≡ after_of was_node a) same done.3

      pub all_answered : AreAnswered asks was_node now_node
      all_answered = record {
        config = refl;
        number = refl;
        count = count_of c number now left ∙ sym (count_of c number was old);
        each = λ ask there lt. by_accepts ask there lt (accepts_of was_node ask) refl;
        others = λ block lt none. as_before block lt (λ k low here. firm_marks k low (elim (cases_Bool (new k)) [
          | inl is_new ↦ (let its = batch.asked k low is_new in absurd (none its.0 its.1 (its.2 ∙ here)))
          | inr firm ↦ firm
        ]));
      }
