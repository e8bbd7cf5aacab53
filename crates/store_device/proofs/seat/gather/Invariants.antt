-- The nodes stay, and the answers of the seats so far were taken.
use Rattle.std.proofs.Common.{◌≡◌, ℕ, ◌≤◌, get_or, map, take}
use Rattle.store_device.proofs.seat.gather.Given as goal

abbrev pub invariant-loop-seat : goal.invariant-loop-seat
invariant-loop-seat g l = (map (λ seat. seat.node) l.seats ≡ map (λ seat. seat.node) l.fn.seats)
    × (l.answers.items ≡ map (λ seat. seat.replies) (take l.seat-index l.fn.seats))
    × ((k : ℕ) (d : _) → l.seat-index ≤ k → get_or l.seats k d ≡ get_or l.fn.seats k d)
