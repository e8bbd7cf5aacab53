use Rattle.std.proofs.Common.{◌≡◌, length}
use Rattle.wire_forms.specs.Liars.{has_number}
use Rattle.world_state.specs.Beginnings.{AreNewNodeSlots}
use Rattle.world_state.proofs.state.new_node_slots.Given as goal

abbrev pub invariant-loop-number : goal.invariant-loop-number
invariant-loop-number l = record { count : length l.slots.items ≡ l.number; new : AreNewNodeSlots l.config (has_number l.liars.nodes) l.slots.items }
