use Rattle.std.proofs.Common.{◌≡◌, map, take}
use Rattle.node_workers.proofs.open.clients_of.Given as goal

-- the seats so far gave their clients' numbers
abbrev pub invariant-loop-seat : goal.invariant-loop-seat
invariant-loop-seat g l = l.ids ≡ map (λ s. s.desk.id) (take l.seat-index l.seats)
