-- What a crash leaves of a node in a slab, at each step of a batch.
use Rattle.std.specs.Prelude.{◌≡◌, ◌≤◌, ◌<◌, ℕ, Bool, true, false, List, length}
use Rattle.quorum_rules.specs.Limits.{Numbers}
use Rattle.stamp_order.specs.declared.Stamp.{Stamp}
use Rattle.protocol.specs.Messages.{Ask}
use Rattle.protocol.specs.Instance.{setting}
use Rattle.node_core.specs.Seen.{SeenNode, versions_in}
use Rattle.slab_layout.specs.Shapes.{slab_len, shape_of, is_marked}
use Rattle.slab_node.specs.declared.batch.Fresh.{Fresh}
use Rattle.slab_node.specs.Held.{held, held_with, with_set}
use Rattle.slab_node.specs.Left.{Agrees, nothing}
use Rattle.slab_node.specs.Changes.{ChangesOnly, IsSubset}
use Rattle.slab_node.specs.Batches.{IsMidwayOver, IsWritten}
use Rattle.slab_node.specs.Answers.{AreAnsweredInPart, AreAnswered, AreForOthers, IsBatchIn, IsBatchOf, AreAllIn}
use Rattle.slab_node.specs.Freed.{IsPrunedInPart, ArePrunable, IsLessSome}

module _ (c : Numbers) (number : ℕ) (old left : List ℕ) where
  -- heads and data of free slots were written, and nothing else
  abbrev pub FreeSlotsDontCount : Type 0
  FreeSlotsDontCount = slab_len (shape_of c) ≤ length old → Agrees (shape_of c) nothing nothing old left → held c number left ≡ held c number old

  -- the marks of a batch were written too
  abbrev pub MarksAnswer : Type 0
  MarksAnswer =
      (asks : List Ask) (new : ℕ → Bool) → IsBatchIn c number old asks new
      → slab_len (shape_of c) ≤ length old → Agrees (shape_of c) new nothing old left
      → AreAnsweredInPart asks (held c number old) (held c number left)

  -- marks were taken away of versions that a prune drops
  abbrev pub FreedMarksPrune : Type 0
  FreedMarksPrune =
      (stamp : ℕ → Stamp) (going : ℕ → Bool) → ArePrunable c number old stamp going
      → slab_len (shape_of c) ≤ length old → Agrees (shape_of c) going nothing old left
      → (block : ℕ) → block < c.blocks
      → IsPrunedInPart (setting c) (stamp block) (versions_in (held c number old) block) (versions_in (held c number left) block)

  -- marks were taken away before, and their slots weren't written since: each of their versions is there or isn't
  abbrev pub GoingMarksMayStay : Type 0
  GoingMarksMayStay =
      (going : ℕ → Bool) → slab_len (shape_of c) ≤ length old → Agrees (shape_of c) going nothing old left
      → IsLessSome c going old (held_with c number going old) (held c number left)

  -- Heads and data of slots that don't count were written, marks of slots that count anyway, and for which blocks the node answers.
  abbrev pub UncountedSlotsDontCount : Type 0
  UncountedSlotsDontCount =
      (set bodies marks answers : ℕ → Bool) → IsSubset marks set
      → ((i : ℕ) → i < (shape_of c).count → bodies i ≡ true → with_set set (is_marked (shape_of c) old) i ≡ false)
      → slab_len (shape_of c) ≤ length old → ChangesOnly (shape_of c) bodies marks answers old left
      → held_with c number set left ≡ held_with c number set old

  -- Marks were taken away, of slots of a set, and a batch was written, at any step.
  abbrev pub BatchesAnswer : Type 0
  BatchesAnswer =
      (set going : ℕ → Bool) (batch : List Fresh) (asks : List Ask) → IsSubset going set → IsBatchOf c number set old asks batch
      → slab_len (shape_of c) ≤ length old → IsMidwayOver (shape_of c) going batch old left
      → (mid : SeenNode) × IsLessSome c set old (held_with c number set old) mid × AreAnsweredInPart asks mid (held c number left)

  -- the same, with all its marks: the versions of the set are kept as long as they count
  abbrev pub WrittenBatchesAnswer : Type 0
  WrittenBatchesAnswer =
      (set going : ℕ → Bool) (batch : List Fresh) (asks : List Ask) → AreForOthers asks → IsSubset going set
      → IsBatchOf c number set old asks batch → AreAllIn c number set old asks batch
      → slab_len (shape_of c) ≤ length old → IsWritten (shape_of c) going batch old left
      → AreAnswered asks (held_with c number set old) (held_with c number set left)
