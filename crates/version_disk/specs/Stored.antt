-- What contracts see of a node on a disk.
use Rattle.std.specs.Prelude.{ℕ, ◌+◌, ◌*◌, ◌==◌, ◌||◌, Bool, nat_le, is_some, List, length}
use Rattle.protocol.specs.Messages.{Ask}
use Rattle.node_core.specs.Seen.{SeenNode, accepts_of}
use Rattle.slot_disk.specs.Bodies.{bodies}
use Rattle.slot_disk.specs.Slots.{body_len}
use Rattle.version_disk.specs.Deeds.{slots_by_all}

-- a node on a disk: the node, its disk, and whether a fault of the disk has broken it
pub record Stored (D : Type 0) : Type 0 where
  pub node : SeenNode
  pub disk : D
  pub broken : Bool

-- the slot behind so many, and the byte after it, fit a room
abbrev pub fits : ℕ → ℕ → ℕ → Bool
fits body count room = nat_le ((count + 1) * (body + 1) + 1) room

-- so many slots more, if any, and the byte after them, fit a room
abbrev pub all_fit : ℕ → ℕ → ℕ → ℕ → Bool
all_fit body count more room = more == 0 || nat_le ((count + more) * (body + 1) + 1) room

-- the node adds a version in answer to the ask
abbrev pub adds : SeenNode → Ask → Bool
adds node ask = is_some (accepts_of node ask)

-- the next slot of a node, and the byte after it, fit this room of a disk with these bytes
abbrev pub has_place : SeenNode → List ℕ → ℕ → Bool
has_place node bytes room = fits (body_len node.config) (length (bodies (body_len node.config) bytes)) room

-- so many slots more, if any, and the byte after them, fit this room of a disk with these bytes
abbrev pub has_room : SeenNode → ℕ → List ℕ → ℕ → Bool
has_room node more bytes room = all_fit (body_len node.config) (length (bodies (body_len node.config) bytes)) more room

-- the slots of the versions that a node adds in answer to the asks, and the byte after them, fit this room of a disk with these bytes
abbrev pub has_places : SeenNode → List Ask → List ℕ → ℕ → Bool
has_places node asks bytes room = has_room node (length (slots_by_all node asks)) bytes room
