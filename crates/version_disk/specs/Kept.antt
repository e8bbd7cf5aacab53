-- A node and the disk that holds its state.
use Rattle.std.specs.Prelude.{◌≡◌, ◌≤◌, ◌⊎◌, ℕ, false, List, ◌++◌, length, take, None}
use Rattle.std.specs.List.{AllByRecursion}
use Rattle.quorum_rules.specs.Limits.{Numbers}
use Rattle.node_core.specs.Seen.{SeenNode}
use Rattle.disk_model.specs.Crash.{Pending, settled}
use Rattle.slot_disk.specs.Bodies.{IsClosedAt}
use Rattle.slot_disk.specs.Slots.{Slot, body_len, Fits}
use Rattle.version_disk.specs.Held.{played, held, slots_of, is_bad, first_bad}

-- all of the disk is safe, it holds the node's state in so many good slots, and the gate behind them is closed
pub record IsKept {D : Type 0} (pending : D → Pending) (seen : D → List ℕ) (c : Numbers) (number : ℕ) (node : SeenNode) (count : ℕ) (disk : D) : Type 0 where
  pub durable : pending disk ≡ settled (seen disk)
  pub closed : IsClosedAt (body_len c) (seen disk) count
  pub state : node ≡ held c number (seen disk)
  pub good : first_bad c number (seen disk) ≡ None

-- the slot fits this cluster, and it isn't bad
pub record IsGoodIn (c : Numbers) (number : ℕ) (s : Slot) : Type 0 where
  pub fits : Fits c s
  pub fine : is_bad c number s ≡ false

-- These bytes hold one of two states, begin with the slots, and have no bad slot.
pub record HoldsOneOf (c : Numbers) (number : ℕ) (slots : List Slot) (before after : SeenNode) (bytes : List ℕ) : Type 0 where
  pub state : (held c number bytes ≡ before) ⊎ (held c number bytes ≡ after)
  pub begins : (more : List Slot) × (slots_of c bytes ≡ slots ++ more)
  pub good : first_bad c number bytes ≡ None

-- all of these slots are good ones
abbrev pub AreGoodIn : Numbers → ℕ → List Slot → Type 0
AreGoodIn c number slots = AllByRecursion (IsGoodIn c number) slots

-- These bytes hold the state after the first few of the new slots, none or all of them too; they begin with the old slots, and have no bad slot.
pub record HoldsFirstOf (c : Numbers) (number : ℕ) (slots : List Slot) (before : SeenNode) (new : List Slot) (bytes : List ℕ) : Type 0 where
  pub state : (k : ℕ) × (k ≤ length new) × (held c number bytes ≡ played before (take k new))
  pub begins : (more : List Slot) × (slots_of c bytes ≡ slots ++ more)
  pub good : first_bad c number bytes ≡ None
