-- What a node in a slab has done of a batch of asks.
use Rattle.std.specs.Prelude.{◌≡◌, ◌⊎◌, ◌<◌, ℕ, Bool, true, false, List, length, Contains, Some}
use Rattle.quorum_rules.specs.Limits.{Numbers}
use Rattle.protocol.specs.Messages.{Version, Ask}
use Rattle.node_core.specs.Seen.{SeenNode, versions_in, after_of, accepts_of}
use Rattle.slab_layout.specs.declared.shape.Shape.{Shape}
use Rattle.slab_layout.specs.Shapes.{is_marked, shape_of}
use Rattle.slab_layout.specs.Heads.{head_in}
use Rattle.slab_node.specs.declared.batch.Fresh.{Fresh}
use Rattle.slab_node.specs.Held.{Entry, entry_at, entry_version, held_with, with_set}
use Rattle.slab_node.specs.Left.{nothing}

-- the block is as it was, or one of the asks for it was answered
abbrev pub IsAnsweredOrNot : List Ask → (was is : SeenNode) → ℕ → Type 0
IsAnsweredOrNot asks was is block =
    (versions_in is block ≡ versions_in was block)
    ⊎ ((ask : Ask) × Contains asks ask × (ask.block ≡ block) × (versions_in is block ≡ after_of was ask))

-- some of the asks were answered, block by block, and the others weren't
pub record AreAnsweredInPart (asks : List Ask) (was is : SeenNode) : Type 0 where
  pub config : is.config ≡ was.config
  pub number : is.number ≡ was.number
  pub count : length is.blocks ≡ length was.blocks
  pub each : (block : ℕ) → block < was.config.blocks → IsAnsweredOrNot asks was is block

-- no two slots of the set are of this block
abbrev pub AtMostOne : Shape → (ℕ → Bool) → List ℕ → ℕ → Type 0
AtMostOne s set bytes block =
    (i j : ℕ) → i < s.count → j < s.count → set i ≡ true → set j ≡ true
    → (entry_at s bytes i).head.block ≡ block → (entry_at s bytes j).head.block ≡ block → i ≡ j

-- Slots that don't count have the versions that a node adds in answer to the asks, where slots of a set count too: of each block one at most, of a
-- greater number than those that count.
pub record IsBatchWith (c : Numbers) (number : ℕ) (set : ℕ → Bool) (bytes : List ℕ) (asks : List Ask) (new : ℕ → Bool) : Type 0 where
  pub unmarked : (j : ℕ) → j < (shape_of c).count → new j ≡ true → with_set set (is_marked (shape_of c) bytes) j ≡ false
  pub last : (j k : ℕ) → j < (shape_of c).count → k < (shape_of c).count → new j ≡ true → with_set set (is_marked (shape_of c) bytes) k ≡ true
      → (entry_at (shape_of c) bytes k).head.block ≡ (entry_at (shape_of c) bytes j).head.block
      → (entry_at (shape_of c) bytes k).head.number < (entry_at (shape_of c) bytes j).head.number
  pub distinct : (block : ℕ) → AtMostOne (shape_of c) new bytes block
  pub asked : (j : ℕ) → j < (shape_of c).count → new j ≡ true
      → (ask : Ask) × Contains asks ask × (ask.block ≡ (entry_at (shape_of c) bytes j).head.block)
      × (accepts_of (held_with c number set bytes) ask ≡ Some (entry_version c.n (entry_at (shape_of c) bytes j)))

-- the same where marked slots alone count
abbrev pub IsBatchIn : Numbers → ℕ → List ℕ → List Ask → (ℕ → Bool) → Type 0
IsBatchIn c number bytes asks new = IsBatchWith c number nothing bytes asks new

-- what the slot of a version will have
abbrev pub entry_of : Fresh → Entry
entry_of f = record { head = head_in f.head.items; bytes = f.data.items }

-- A batch has the versions that a node adds in answer to the asks, where slots of a set count too: of each block one at most, in slots that don't
-- count, of greater numbers than those that count.
pub record IsBatchOf (c : Numbers) (number : ℕ) (set : ℕ → Bool) (bytes : List ℕ) (asks : List Ask) (batch : List Fresh) : Type 0 where
  pub below : (f : Fresh) → Contains batch f → f.slot < (shape_of c).count
  pub free : (f : Fresh) → Contains batch f → with_set set (is_marked (shape_of c) bytes) f.slot ≡ false
  pub last : (f : Fresh) (k : ℕ) → Contains batch f → k < (shape_of c).count → with_set set (is_marked (shape_of c) bytes) k ≡ true
      → (entry_at (shape_of c) bytes k).head.block ≡ (entry_of f).head.block → (entry_at (shape_of c) bytes k).head.number < (entry_of f).head.number
  pub distinct : (f g : Fresh) → Contains batch f → Contains batch g → (entry_of f).head.block ≡ (entry_of g).head.block → f.slot ≡ g.slot
  pub asked : (f : Fresh) → Contains batch f
      → (ask : Ask) × Contains asks ask × (ask.block ≡ (entry_of f).head.block) × (accepts_of (held_with c number set bytes) ask ≡ Some (entry_version c.n (entry_of f)))

-- all of the asks were answered, and no other block changed
pub record AreAnswered (asks : List Ask) (was is : SeenNode) : Type 0 where
  pub config : is.config ≡ was.config
  pub number : is.number ≡ was.number
  pub count : length is.blocks ≡ length was.blocks
  pub each : (ask : Ask) → Contains asks ask → ask.block < was.config.blocks → versions_in is ask.block ≡ after_of was ask
  pub others : (block : ℕ) → block < was.config.blocks → ((ask : Ask) → Contains asks ask → ask.block ≡ block → ⊥) → versions_in is block ≡ versions_in was block

-- no two of the asks are for one block
abbrev pub AreForOthers : List Ask → Type 0
AreForOthers asks = (a b : Ask) → Contains asks a → Contains asks b → a.block ≡ b.block → a ≡ b

-- each ask for which the node adds a version has a slot
abbrev pub HaveSlots : Numbers → ℕ → (ℕ → Bool) → List ℕ → List Ask → (ℕ → Bool) → Type 0
HaveSlots c number set bytes asks new =
    (ask : Ask) (v : Version) → Contains asks ask → accepts_of (held_with c number set bytes) ask ≡ Some v
    → (j : ℕ) × (j < (shape_of c).count) × (new j ≡ true) × ((entry_at (shape_of c) bytes j).head.block ≡ ask.block)

-- each ask for which the node adds a version has one in the batch
abbrev pub AreAllIn : Numbers → ℕ → (ℕ → Bool) → List ℕ → List Ask → List Fresh → Type 0
AreAllIn c number set bytes asks batch =
    (ask : Ask) (v : Version) → Contains asks ask → accepts_of (held_with c number set bytes) ask ≡ Some v
    → (f : Fresh) × Contains batch f × ((entry_of f).head.block ≡ ask.block)
