use Rattle.std.proofs.Common.{◌≡◌, ◌<◌, map}
use Rattle.std.specs.Prelude.{nat_lt}
use Rattle.std.specs.List.{list_any, range_with_len}
use Rattle.store_device.specs.Stores.{seat_at}
use Rattle.store_care.specs.Pruning.{versions_at}
use Rattle.store_care.proofs.pruning.is_overfull.Given as goal

abbrev pub invariant-loop-seat : goal.invariant-loop-seat
invariant-loop-seat g l = record {
  same : l.store ≡ l.fn.store;
  there : l.block < l.fn.store.config.blocks;
  full : l.full ≡ list_any (nat_lt l.most) (map (λ seat. versions_at (seat_at l.fn.store seat) l.block) (range_with_len 0 l.seat));
  ends : l.seat-end ≡ l.fn.store.config.n;
}
