-- Marks of versions that leave were taken away, each of them or not: the node has dropped some of them.
use Rattle.std.proofs.Common.{◌≡◌, inl, inr, ℕ, ◌<◌, ◌==◌, ◌&&◌, ◌++◌, Bool, true, false, List, ◌∷◌, refl, sym, ◌∙◌, ap, subst, eqb-true}
use Rattle.std.specs.List.{AllByRecursion}
use Rattle.std.proofs.lemmas.Bool.{cases_Bool, false≢true, and_parts, and_from}
use Rattle.std.proofs.lemmas.List.Elements.{Contains-append_left, Contains-append_right}
use Rattle.quorum_rules.specs.Limits.{Numbers}
use Rattle.protocol.specs.Messages.{Version}
use Rattle.protocol.specs.Nodes.{first_version}
use Rattle.protocol.specs.Instance.{setting}
use Rattle.node_core.specs.Seen.{versions_in}
use Rattle.slab_layout.specs.declared.shape.Shape.{Shape}
use Rattle.slab_layout.specs.Shapes.{is_marked, shape_of, part, head_at, data_at, data_len}
use Rattle.slab_node.specs.Held.{entry_at, entry_version, held_by, held_with, versions}
use Rattle.slab_node.specs.Left.{nothing}
use Rattle.slab_node.specs.Freed.{KeepsSome, keeps}
use Rattle.slab_node.proofs.lemmas.Node.{versions_at, count_of}
use Rattle.slab_node.proofs.lemmas.Freeing.{versions_part}
use Rattle.slab_engine.specs.Seen.{Leaving, has_slot, counted, IsOneOf, IsLessLeaving}
use Rattle.slab_engine.specs.Whole.{IsItsHead}
use Rattle.slab_engine.proofs.Lists.{slot_of}
use Rattle.slab_engine.proofs.Changes.{versions_stay}

more_counts : (now was same : Bool) → (now ≡ true → was ≡ true) → (now && same) ≡ true → (was && same) ≡ true
more_counts now was same h hit = let parts = and_parts _ _ hit in and_from _ _ (h parts.0) parts.1

no_counts : (now was same : Bool) → (was && same) ≡ true → (now && same) ≡ false → now ≡ false
no_counts false was same hit miss = refl
no_counts true was same hit miss = absurd (false≢true (sym miss ∙ (and_parts _ _ hit).1))

-- a slot that counts no longer is that of a version that leaves, or of one that was cleared
module _ (c : Numbers) (number : ℕ) (old left : List ℕ) (leaving cleared : List Leaving) (now : ℕ → Bool)
    (its_leaving : AllByRecursion (λ l. IsItsHead c old l × (is_marked (shape_of c) old l.slot ≡ true)) leaving)
    (its_cleared : AllByRecursion (λ l. IsItsHead c old l × (is_marked (shape_of c) old l.slot ≡ false)) cleared)
    (firm : (k : ℕ) → k < (shape_of c).count → has_slot leaving k ≡ false → has_slot cleared k ≡ false → now k ≡ is_marked (shape_of c) old k)
    (heads : (k : ℕ) → k < (shape_of c).count → now k ≡ true → part left (head_at (shape_of c) k) 72 ≡ part old (head_at (shape_of c) k) 72)
    (bodies : (k : ℕ) → k < (shape_of c).count → now k ≡ true → part left (data_at (shape_of c) k) (data_len (shape_of c)) ≡ part old (data_at (shape_of c) k) (data_len (shape_of c))) where
  abbrev s : Shape
  s = shape_of c

  abbrev was : ℕ → Bool
  was = counted c cleared old

  -- what counts now counted before
  fewer : (k : ℕ) → k < s.count → now k ≡ true → was k ≡ true
  fewer k lt is = elim (cases_Bool (has_slot cleared k)) [
    | inl its ↦ rw its refl
    | inr other ↦ elim (cases_Bool (has_slot leaving k)) [
      | inl goes ↦ (let found = slot_of _ leaving k its_leaving goes in rw other (subst (λ (j : ℕ). is_marked s old j ≡ true) found.2 found.3.1))
      | inr stays ↦ rw other (sym (firm k lt stays other) ∙ is)
    ]
  ]

  one_of : (block k : ℕ) → k < s.count → was k ≡ true → (entry_at s old k).head.block ≡ block → now k ≡ false → IsOneOf (leaving ++ cleared) block (entry_version c.n (entry_at s old k))
  one_of block k lt is here gone = elim (cases_Bool (has_slot cleared k)) [
    | inl its ↦
        let found = slot_of _ cleared k its_cleared its in (
          found.0,
          Contains-append_right leaving cleared found.0 found.1,
          sym found.3.0.block ∙ ap (λ j. (entry_at s old j).head.block) found.2 ∙ here,
          sym found.3.0.stamp ∙ ap (λ j. (entry_at s old j).head.stamp) found.2,
        )
    | inr other ↦ elim (cases_Bool (has_slot leaving k)) [
      | inl goes ↦
          let found = slot_of _ leaving k its_leaving goes in (
            found.0,
            Contains-append_left leaving cleared found.0 found.1,
            sym found.3.0.block ∙ ap (λ j. (entry_at s old j).head.block) found.2 ∙ here,
            sym found.3.0.stamp ∙ ap (λ j. (entry_at s old j).head.stamp) found.2,
          )
      | inr stays ↦ (let marked : is_marked s old k ≡ true = rw other at is in absurd (false≢true (sym gone ∙ firm k lt stays other ∙ marked)))
    ]
  ]

  some_of : (block : ℕ) → KeepsSome (IsOneOf (leaving ++ cleared) block) (versions s was old block) (versions s now old block)
  some_of block =
      versions_part c.n (IsOneOf (leaving ++ cleared) block) was now (entry_at s old) block s.count
      (λ k low hit. more_counts (now k) (was k) ((entry_at s old k).head.block == block) (fewer k low) hit)
      (λ k low hit miss.
      let parts = and_parts _ _ hit in
      one_of block k low parts.0 (eqb-true _ _ parts.1) (no_counts (now k) (was k) ((entry_at s old k).head.block == block) hit miss))

  -- the same slots of other bytes
  now_same : (block : ℕ) → versions s now left block ≡ versions s now old block
  now_same block =
      versions_stay s old left now now nothing
      (record { firm = λ k lt is. refl; free = λ k lt is. absurd (false≢true is); heads = heads; bodies = bodies }) block
      (λ k lt is. absurd (false≢true is))

  pub less_leaving : IsLessLeaving (leaving ++ cleared) (held_with c number (has_slot cleared) old) (held_by s now c number left)
  less_leaving = record {
    config = refl;
    number = refl;
    count = count_of c number now left ∙ sym (count_of c number was old);
    each = λ block lt.
        let first : Version = first_version (setting c) number in
        let Go : Version → Type 0 = IsOneOf (leaving ++ cleared) block in
        subst (λ (vs : List Version). KeepsSome Go vs (versions_in (held_by s now c number left) block)) (sym (versions_at c number was old block lt))
        (subst (λ (vs : List Version). KeepsSome Go (first ∷ versions s was old block) vs) (sym (versions_at c number now left block lt ∙ ap (λ vs. first ∷ vs) (now_same block)))
        (keeps first (versions s was old block) (versions s now old block) (some_of block)));
  }
