-- The nodes stay, and the seats so far have their asks.
use Rattle.std.proofs.Common.{◌≡◌, ℕ, ◌≤◌, get_or, map, take, length}
use Rattle.store_device.proofs.seat.hand_out.Given as goal

abbrev pub invariant-loop-i : goal.invariant-loop-i
invariant-loop-i g l = (map (λ seat. seat.node) l.seats ≡ map (λ seat. seat.node) l.fn.seats)
    × (take l.i (map (λ seat. seat.asks.items) l.seats) ≡ take l.i (map (λ a. a.items) l.fn.asks.items))
    × (length l.asks.items ≡ length l.fn.asks.items)
    × ((k : ℕ) (d : _) → l.i ≤ k → get_or l.asks.items k d ≡ get_or l.fn.asks.items k d)
