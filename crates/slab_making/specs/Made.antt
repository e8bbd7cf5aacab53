-- What a slab is when it is made.
use Rattle.std.specs.Prelude.{◌≡◌, ◌≤◌, ◌<◌, ℕ, ◌+◌, Bool, false, List, length, slice_index}
use Rattle.quorum_rules.specs.Limits.{Numbers}
use Rattle.node_core.specs.Seen.{new_node}
use Rattle.slab_layout.specs.declared.shape.Shape.{Shape}
use Rattle.slab_layout.specs.Shapes.{slab_len, part, is_marked, answers_for, shape_of}
use Rattle.slab_layout.specs.Headers.{header_bytes}
use Rattle.slab_node.specs.Held.{held}

-- the header stands at the front
abbrev pub HasHeader : Numbers → ℕ → ℕ → List ℕ → Type 0
HasHeader c number key bytes = part bytes 0 40 ≡ header_bytes c number key

-- Behind the header: no slot is marked, and the node answers for all blocks, or for none.
pub record IsBlank (s : Shape) (answers : Bool) (bytes : List ℕ) : Type 0 where
  pub long : slab_len s ≤ length bytes
  pub answered : (b : ℕ) → b < s.blocks → answers_for s bytes b ≡ answers
  pub unmarked : (i : ℕ) → i < s.count → is_marked s bytes i ≡ false

-- a new slab
pub record IsNewSlab (c : Numbers) (number key : ℕ) (answers : Bool) (bytes : List ℕ) : Type 0 where
  pub header : HasHeader c number key bytes
  pub blank : IsBlank (shape_of c) answers bytes

-- Where the header stands, the slab is whole.
abbrev pub IsWholeOrNone : Numbers → ℕ → ℕ → Bool → List ℕ → Type 0
IsWholeOrNone c number key answers bytes = HasHeader c number key bytes → IsNewSlab c number key answers bytes

-- each byte of a range is the same
abbrev pub AreAll : ℕ → ℕ → ℕ → List ℕ → Type 0
AreAll at count byte bytes = (k : ℕ) → at ≤ k → k < at + count → slice_index bytes k ≡ byte

-- there is no room for a header
abbrev pub IsShort : List ℕ → Type 0
IsShort bytes = length bytes < 40

-- there is a first byte, and it is 0, which no header begins with
pub record BeginsWithZero (bytes : List ℕ) : Type 0 where
  pub some : 0 < length bytes
  pub zero : slice_index bytes 0 ≡ 0

-- the node in a new slab keeps the first version of each block
abbrev pub NewSlabsAreNew : Numbers → ℕ → ℕ → Bool → List ℕ → Type 0
NewSlabsAreNew c number key answers bytes = IsNewSlab c number key answers bytes → held c number bytes ≡ new_node c number
