use Rattle.std.proofs.Common.{◌≡◌, length}
use Rattle.wire_forms.specs.Liars.{has_number}
use Rattle.world_state.specs.Beginnings.{AreNewClientSlots}
use Rattle.world_state.proofs.state.new_client_slots.Given as goal

abbrev pub invariant-loop-id : goal.invariant-loop-id
invariant-loop-id l = record { count : length l.slots.items ≡ l.id; new : AreNewClientSlots l.config (has_number l.liars.clients) l.slots.items }
