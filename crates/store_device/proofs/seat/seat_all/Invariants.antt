-- The seats so far have the nodes so far.
use Rattle.std.proofs.Common.{◌≡◌, map}
use Rattle.store_device.proofs.seat.seat_all.Given as goal

abbrev pub invariant-loop-node : goal.invariant-loop-node
invariant-loop-node g l = map (λ seat. seat.node) l.seats.items ≡ l.yielded
