-- Versions that a node may have dropped or not, each by itself.
use Rattle.std.specs.Prelude.{◌≡◌, ◌<◌, ℕ, Bool, true, false, List, [], ◌∷◌, length}
use Rattle.stamp_order.specs.declared.Stamp.{Stamp}
use Rattle.protocol.specs.Messages.{Version}
use Rattle.protocol.specs.Setting.{Setting}
use Rattle.protocol.specs.Nodes.{outlives}
use Rattle.protocol.specs.Instance.{setting}
use Rattle.quorum_rules.specs.Limits.{Numbers}
use Rattle.node_core.specs.Seen.{SeenNode, versions_in}
use Rattle.slab_layout.specs.Shapes.{is_marked, shape_of}
use Rattle.slab_node.specs.Held.{entry_at, entry_version, held}

-- the second list is the first without some of those that may go
pub data KeepsSome {A : Type 0} (MayGo : A → Type 0) : List A → List A → Type 0 where
  none : KeepsSome MayGo [] []
  keeps : (x : A) (xs ys : List A) → KeepsSome MayGo xs ys → KeepsSome MayGo (x ∷ xs) (x ∷ ys)
  drops : (x : A) (xs ys : List A) → MayGo x → KeepsSome MayGo xs ys → KeepsSome MayGo (x ∷ xs) ys

-- of the versions that a prune by this stamp drops, each is dropped or isn't
abbrev pub IsPrunedInPart : Setting → Stamp → List Version → List Version → Type 0
IsPrunedInPart s stamp vs kept = KeepsSome (λ v. outlives s stamp vs v ≡ false) vs kept

-- the version is that of a slot of the set, of this block
abbrev pub IsOf : Numbers → (ℕ → Bool) → List ℕ → ℕ → Version → Type 0
IsOf c set bytes block v =
    (i : ℕ) × (i < (shape_of c).count) × (set i ≡ true) × ((entry_at (shape_of c) bytes i).head.block ≡ block)
    × (v ≡ entry_version c.n (entry_at (shape_of c) bytes i))

-- A node has dropped some of the versions of a set of slots, block by block, and kept all others.
pub record IsLessSome (c : Numbers) (set : ℕ → Bool) (bytes : List ℕ) (was is : SeenNode) : Type 0 where
  pub config : is.config ≡ was.config
  pub number : is.number ≡ was.number
  pub count : length is.blocks ≡ length was.blocks
  pub each : (block : ℕ) → block < c.blocks → KeepsSome (IsOf c set bytes block) (versions_in was block) (versions_in is block)

-- Slots are marked, and a prune of their block by this stamp drops each of their versions.
pub record ArePrunable (c : Numbers) (number : ℕ) (bytes : List ℕ) (stamp : ℕ → Stamp) (going : ℕ → Bool) : Type 0 where
  pub marked : (j : ℕ) → j < (shape_of c).count → going j ≡ true → is_marked (shape_of c) bytes j ≡ true
  pub dropped : (j : ℕ) → j < (shape_of c).count → going j ≡ true
      → outlives (setting c) (stamp (entry_at (shape_of c) bytes j).head.block) (versions_in (held c number bytes) (entry_at (shape_of c) bytes j).head.block)
      (entry_version c.n (entry_at (shape_of c) bytes j)) ≡ false
