use Rattle.std.proofs.Common.{◌≡◌, ◌<◌, map}
use Rattle.std.specs.List.{range_with_len}
use Rattle.store_care.specs.Holdings.{newest_at}
use Rattle.store_care.proofs.newest.newest_of.Given as goal

abbrev pub invariant-loop-seat : goal.invariant-loop-seat
invariant-loop-seat g l = record {
  same : l.store ≡ l.fn.store;
  there : l.block < l.fn.store.config.blocks;
  newest : l.newest.items ≡ map (newest_at l.fn.store l.block) (range_with_len 0 l.seat);
  ends : l.seat-end ≡ l.fn.store.config.n;
}
