-- The lemma of `Order`.
use Rattle.slot_disk.proofs.Order.{in_order}
use Rattle.slot_disk.proofs.laws.slots_in_order.Goals as goal

pub returns : goal.returns
returns a = in_order
