-- The state of a node that the bytes of its disk hold.
use Rattle.std.specs.Prelude.{ℕ, suc, Bool, true, false, if◌then◌else◌, not, ◌==◌, nat_lt, List, [], ◌∷◌, map, Option, Some, None}
use Rattle.quorum_rules.specs.Limits.{Numbers}
use Rattle.protocol.specs.Messages.{Ask, Reply}
use Rattle.protocol.specs.Nodes.{reply, pruned}
use Rattle.protocol.specs.Instance.{setting}
use Rattle.wire_forms.specs.declared.Request.TheVariants.{Write}
use Rattle.wire_forms.specs.declared.Reply.TheVariants.{Refused}
use Rattle.node_core.specs.Seen.{SeenNode, versions_in, with_versions, new_node, after_of}
use Rattle.slot_disk.specs.Bodies.{bodies}
use Rattle.slot_disk.specs.Slots.{Slot, slot_of, body_len}

-- the ask that a slot of an accepted version stands for
abbrev pub written : Slot → Ask
written s = record { block = s.block; request = Write s.version }

-- a slot of kind 0 is the Write of its version, one of kind 1 a prune of its block by its stamp
abbrev pub after_slot : SeenNode → Slot → SeenNode
after_slot node s =
    if s.kind == 0 then with_versions node s.block (after_of node (written s))
    else with_versions node s.block (pruned (setting node.config) s.version.stamp (versions_in node s.block))

-- slots one after the other
abbrev pub played : SeenNode → List Slot → SeenNode
played node [] = node
played node (s ∷ slots) = played (after_slot node s) slots

-- the open slots of a disk, before the first that isn't open
abbrev pub slots_of : Numbers → List ℕ → List Slot
slots_of c bytes = map (slot_of c.n) (bodies (body_len c) bytes)

-- the state that a disk holds
abbrev pub held : Numbers → ℕ → List ℕ → SeenNode
held c number bytes = played (new_node c number) (slots_of c bytes)

abbrev pub is_refusal : Reply → Bool
is_refusal (Refused reason) = true
is_refusal _ = false

-- a slot that no node of this number writes
abbrev pub is_bad : Numbers → ℕ → Slot → Bool
is_bad c number s =
    if s.kind == 0 then is_refusal (reply (setting c) number [] (written s))
    else if s.kind == 1 then not (nat_lt s.block c.blocks)
    else true

-- the number of the first bad slot, counted from i
abbrev pub first_bad_from : Numbers → ℕ → ℕ → List Slot → Option ℕ
first_bad_from c number i [] = None
first_bad_from c number i (s ∷ slots) = if is_bad c number s then Some i else first_bad_from c number (suc i) slots

abbrev pub first_bad : Numbers → ℕ → List ℕ → Option ℕ
first_bad c number bytes = first_bad_from c number 0 (slots_of c bytes)
