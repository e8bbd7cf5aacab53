-- The list has a None for each round so far.
use Rattle.std.proofs.Common.{◌≡◌, replicate, None}
use Rattle.store_device.proofs.seating.nobody.Given as goal

abbrev pub invariant-loop : goal.invariant-loop
invariant-loop g l = l.nodes.items ≡ replicate l.counter None
