-- What becomes of blocks that are renewed.
use Rattle.std.specs.Prelude.{◌≡◌, ◌⊎◌, ◌≤◌, ◌<◌, ℕ, Bool, true, false, List, [], ◌∷◌, length, Contains}
use Rattle.quorum_rules.specs.Limits.{Numbers}
use Rattle.protocol.specs.Messages.{Version}
use Rattle.protocol.specs.Nodes.{first_version}
use Rattle.protocol.specs.Instance.{setting}
use Rattle.node_core.specs.Seen.{versions_in}
use Rattle.slab_layout.specs.declared.shape.Shape.{Shape}
use Rattle.slab_layout.specs.Shapes.{answers_for, is_marked, shape_of, slab_len}
use Rattle.slab_node.specs.declared.batch.Fresh.{Fresh}
use Rattle.slab_node.specs.Held.{entry_at, entry_version, held}
use Rattle.slab_node.specs.Left.{nothing}
use Rattle.slab_node.specs.Changes.{ChangesOnly}
use Rattle.slab_node.specs.Batches.{IsMidwayOver, IsWritten}
use Rattle.slab_node.specs.Answers.{entry_of}

-- the node answers for none of these blocks any more, and nothing else changed
pub record IsSilenced (s : Shape) (blocks : ℕ → Bool) (old new : List ℕ) : Type 0 where
  pub bytes : ChangesOnly s nothing nothing blocks old new
  pub unanswered : (b : ℕ) → b < s.blocks → blocks b ≡ true → answers_for s new b ≡ false

-- The node answers for none of the blocks, and marks are being taken away and a batch written.
pub record IsSilent (s : Shape) (blocks going : ℕ → Bool) (batch : List Fresh) (old left : List ℕ) : Type 0 where
  pub mid : List ℕ
  pub silenced : IsSilenced s blocks old mid
  pub midway : IsMidwayOver s going batch mid left

-- The batch is written, and then it is written for which of the blocks the node answers.
pub record IsRewritten (s : Shape) (blocks going : ℕ → Bool) (batch : List Fresh) (old left : List ℕ) : Type 0 where
  pub mid : List ℕ
  pub silenced : IsSilenced s blocks old mid
  pub last : List ℕ
  pub written : IsWritten s going batch mid last
  pub answers : ChangesOnly s nothing nothing blocks last left

-- At some moment of it: the versions are the old ones, or none of the blocks is answered for, or the batch is written.
abbrev pub IsRewrittenInPart : Shape → (ℕ → Bool) → (ℕ → Bool) → List Fresh → List ℕ → List ℕ → Type 0
IsRewrittenInPart s blocks going batch old left =
    ChangesOnly s nothing nothing blocks old left ⊎ IsSilent s blocks going batch old left ⊎ IsRewritten s blocks going batch old left

-- A batch has at most one version of each of the blocks and of no other, in free slots; the slots that go are all marked slots of these blocks.
pub record IsRenewalOf (c : Numbers) (bytes : List ℕ) (blocks going : ℕ → Bool) (batch : List Fresh) : Type 0 where
  pub below : (f : Fresh) → Contains batch f → f.slot < (shape_of c).count
  pub free : (f : Fresh) → Contains batch f → is_marked (shape_of c) bytes f.slot ≡ false
  pub distinct : (f g : Fresh) → Contains batch f → Contains batch g → (entry_of f).head.block ≡ (entry_of g).head.block → f.slot ≡ g.slot
  pub among : (f : Fresh) → Contains batch f → blocks (entry_of f).head.block ≡ true
  pub marked : (k : ℕ) → k < (shape_of c).count → going k ≡ true → is_marked (shape_of c) bytes k ≡ true
  pub theirs : (k : ℕ) → k < (shape_of c).count → going k ≡ true → blocks (entry_at (shape_of c) bytes k).head.block ≡ true
  pub all : (k : ℕ) → k < (shape_of c).count → is_marked (shape_of c) bytes k ≡ true → blocks (entry_at (shape_of c) bytes k).head.block ≡ true → going k ≡ true

-- the versions of a renewed block: the first, and that of the batch where it has one
abbrev pub AreRenewed : Numbers → ℕ → List Fresh → ℕ → List Version → Type 0
AreRenewed c number batch block vs =
    ((f : Fresh) × Contains batch f × ((entry_of f).head.block ≡ block) × (vs ≡ first_version (setting c) number ∷ entry_version c.n (entry_of f) ∷ []))
    ⊎ (((f : Fresh) → Contains batch f → (entry_of f).head.block ≡ block → ⊥) × (vs ≡ first_version (setting c) number ∷ []))

-- the versions of a block are as they were
abbrev pub AreAsBefore : Numbers → ℕ → List ℕ → List ℕ → ℕ → Type 0
AreAsBefore c number old left block = versions_in (held c number left) block ≡ versions_in (held c number old) block

module _ (c : Numbers) (number : ℕ) (old left : List ℕ) where
  -- At any moment of a renewal: a block's versions are the old ones, or it isn't answered for, or they are renewed. Other blocks are as they were.
  abbrev pub RenewalsRenew : Type 0
  RenewalsRenew =
      (blocks going : ℕ → Bool) (batch : List Fresh) → IsRenewalOf c old blocks going batch
      → slab_len (shape_of c) ≤ length old → IsRewrittenInPart (shape_of c) blocks going batch old left
      → (block : ℕ) → block < c.blocks
      → (blocks block ≡ true → AreAsBefore c number old left block ⊎ (answers_for (shape_of c) left block ≡ false) ⊎ AreRenewed c number batch block (versions_in (held c number left) block))
      × (blocks block ≡ false → AreAsBefore c number old left block × (answers_for (shape_of c) left block ≡ answers_for (shape_of c) old block))

  -- at its end
  abbrev pub WrittenRenewalsRenew : Type 0
  WrittenRenewalsRenew =
      (blocks going : ℕ → Bool) (batch : List Fresh) → IsRenewalOf c old blocks going batch
      → slab_len (shape_of c) ≤ length old → IsRewritten (shape_of c) blocks going batch old left
      → (block : ℕ) → block < c.blocks → blocks block ≡ true → AreRenewed c number batch block (versions_in (held c number left) block)
