-- None of those that were passed is starved.
use Rattle.std.proofs.Common.{◌≡◌, ℕ, ◌<◌, false, get_or}
use Rattle.store_device.proofs.seat.none_starved.Given as goal

abbrev pub invariant-loop-seat : goal.invariant-loop-seat
invariant-loop-seat g l = (k : ℕ) (d : _) → k < l.seat-index → (get_or l.seats k d).starved ≡ false
