-- What a node on a disk is asked to do, and what that writes.
use Rattle.std.specs.Prelude.{◌≡◌, ◌≤◌, ℕ, Bool, if◌then◌else◌, nat_lt, Option, Some, None, List, [], ◌∷◌, ◌++◌, length, map, take}
use Rattle.quorum_rules.specs.Limits.{Numbers}
use Rattle.stamp_order.specs.declared.Stamp.{Stamp}
use Rattle.protocol.specs.Messages.{Version, Ask, Reply}
use Rattle.protocol.specs.Nodes.{pruned}
use Rattle.protocol.specs.Instance.{setting}
use Rattle.node_core.specs.Seen.{SeenNode, versions_in, with_versions, reply_of, after_of, accepts_of}
use Rattle.slot_disk.specs.Slots.{Slot, version_slot, prune_slot}
use Rattle.version_disk.specs.Held.{held, slots_of, first_bad}
use Rattle.version_disk.specs.Kept.{HoldsOneOf}
use Rattle.version_disk.specs.declared.prune.Prune.{Prune}

-- an ask is answered, or a block is pruned by a stamp
pub data Deed : Type 0 where
  Answers : Ask → Deed
  Prunes : ℕ → Stamp → Deed

-- the node when that is done
abbrev pub after_deed : SeenNode → Deed → SeenNode
after_deed node (Answers ask) = with_versions node ask.block (after_of node ask)
after_deed node (Prunes block stamp) = with_versions node block (pruned (setting node.config) stamp (versions_in node block))

-- one slot for a version that is added, none where none is
abbrev pub added_slots : ℕ → Option Version → List Slot
added_slots block None = []
added_slots block (Some version) = version_slot block version ∷ []

-- the slots that it writes: that of the version that an ask adds, if any; that of a prune in any case
abbrev pub slots_by : SeenNode → Deed → List Slot
slots_by node (Answers ask) = added_slots ask.block (accepts_of node ask)
slots_by node (Prunes block stamp) = prune_slot node.config block stamp ∷ []

-- It was done wholly: the disk's slots are those from before and those of the deed, it holds the node after it, and no slot is bad.
pub record IsDone (c : Numbers) (number : ℕ) (node : SeenNode) (deed : Deed) (old new : List ℕ) : Type 0 where
  pub state : held c number new ≡ after_deed node deed
  pub slots : slots_of c new ≡ slots_of c old ++ slots_by node deed
  pub good : first_bad c number new ≡ None

-- It was done wholly or not at all: the bytes hold the node before or after it, begin with the slots from before, and have no bad slot.
abbrev pub IsDoneOrNot : Numbers → ℕ → SeenNode → Deed → List ℕ → List ℕ → Type 0
IsDoneOrNot c number node deed old left = HoldsOneOf c number (slots_of c old) node (after_deed node deed) left

-- ---- many deeds, one after the other

-- the node when all of them are done
abbrev pub after_deeds : SeenNode → List Deed → SeenNode
after_deeds node [] = node
after_deeds node (deed ∷ deeds) = after_deeds (after_deed node deed) deeds

-- a prune of the block by the stamp drops a version
abbrev pub drops : SeenNode → ℕ → Stamp → Bool
drops node block stamp = nat_lt (length (pruned (setting node.config) stamp (versions_in node block))) (length (versions_in node block))

-- the slots that a deed among others writes: none where it changes nothing
abbrev pub slots_among : SeenNode → Deed → List Slot
slots_among node (Answers ask) = added_slots ask.block (accepts_of node ask)
slots_among node (Prunes block stamp) = if drops node block stamp then prune_slot node.config block stamp ∷ [] else []

-- the slots that they write
abbrev pub slots_by_deeds : SeenNode → List Deed → List Slot
slots_by_deeds node [] = []
slots_by_deeds node (deed ∷ deeds) = slots_among node deed ++ slots_by_deeds (after_deed node deed) deeds

-- All of them were done: the disk's slots are those from before and those that they write, it holds the node after them, and no slot is bad.
pub record AreDone (c : Numbers) (number : ℕ) (node : SeenNode) (deeds : List Deed) (old new : List ℕ) : Type 0 where
  pub state : held c number new ≡ after_deeds node deeds
  pub slots : slots_of c new ≡ slots_of c old ++ slots_by_deeds node deeds
  pub good : first_bad c number new ≡ None

-- The first few of them were done, none or all of them too: the bytes hold the node after those, begin with the slots from before, and have no bad slot.
pub record AreDoneInPart (c : Numbers) (number : ℕ) (node : SeenNode) (deeds : List Deed) (old left : List ℕ) : Type 0 where
  pub state : (k : ℕ) × (k ≤ length deeds) × (held c number left ≡ after_deeds node (take k deeds))
  pub begins : (more : List Slot) × (slots_of c left ≡ slots_of c old ++ more)
  pub good : first_bad c number left ≡ None

-- ---- many asks, and many prunes

-- asks are answered
abbrev pub answering : List Ask → List Deed
answering asks = map Answers asks

-- blocks are pruned
abbrev pub pruning : List Prune → List Deed
pruning prunes = map (λ p. Prunes p.block p.stamp) prunes

-- the node when it has answered all the asks
abbrev pub after_asks : SeenNode → List Ask → SeenNode
after_asks node asks = after_deeds node (answering asks)

-- its answers
abbrev pub replies_of : SeenNode → List Ask → List Reply
replies_of node [] = []
replies_of node (ask ∷ asks) = reply_of node ask ∷ replies_of (after_deed node (Answers ask)) asks

-- the slots that they write
abbrev pub slots_by_all : SeenNode → List Ask → List Slot
slots_by_all node asks = slots_by_deeds node (answering asks)

-- the node when it has pruned all the blocks
abbrev pub after_prunes : SeenNode → List Prune → SeenNode
after_prunes node prunes = after_deeds node (pruning prunes)

-- the slots that they write
abbrev pub slots_by_prunes : SeenNode → List Prune → List Slot
slots_by_prunes node prunes = slots_by_deeds node (pruning prunes)
