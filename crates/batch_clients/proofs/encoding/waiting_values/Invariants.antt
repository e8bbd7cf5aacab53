use Rattle.std.specs.List.{AllZip}
use Rattle.batch_clients.specs.Encoding.{WritesAt}
use Rattle.batch_clients.proofs.encoding.waiting_values.Given as goal

abbrev pub invariant-loop-place : goal.invariant-loop-place
invariant-loop-place l = AllZip (WritesAt l.turns) l.places.items l.values.items
