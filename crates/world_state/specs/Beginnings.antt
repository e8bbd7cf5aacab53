-- Nodes and clients before anything took place.
use Rattle.std.specs.Prelude.{◌≡◌, ℕ, Bool, false, List, slice_get}
use Rattle.std.specs.declared.option.Option.TheVariants.{Some}
use Rattle.quorum_rules.specs.Limits.{Numbers}
use Rattle.protocol.specs.Seen.{new_client}
use Rattle.node_core.specs.Seen.{new_node}
use Rattle.world_state.specs.declared.node_slot.NodeSlot.{NodeSlot}
use Rattle.world_state.specs.declared.client_slot.ClientSlot.{ClientSlot}

-- the node of this number keeps the first versions and hasn't crashed
pub record IsNewNodeSlot (c : Numbers) (lies : ℕ → Bool) (i : ℕ) (slot : NodeSlot) : Type 0 where
  pub node : slot.stored.node ≡ new_node c i
  pub awake : slot.crashed ≡ false
  pub lying : slot.lying ≡ lies i

-- the client of this number, before its first operation
abbrev pub new_client_slot : Numbers → (ℕ → Bool) → ℕ → ClientSlot
new_client_slot c lies k = record { client = record { config = c; id = k; seen = new_client }; start = 0; index = 0; crashed = false; lying = lies k }

-- each slot is new
abbrev pub AreNewNodeSlots : Numbers → (ℕ → Bool) → List NodeSlot → Type 0
AreNewNodeSlots c lies node_slots = (i : ℕ) (h : NodeSlot) → slice_get node_slots i ≡ Some h → IsNewNodeSlot c lies i h

-- each slot is new
abbrev pub AreNewClientSlots : Numbers → (ℕ → Bool) → List ClientSlot → Type 0
AreNewClientSlots c lies client_slots = (k : ℕ) (s : ClientSlot) → slice_get client_slots k ≡ Some s → s ≡ new_client_slot c lies k
