use Rattle.std.proofs.Common.{◌≡◌, ◌<◌, map}
use Rattle.std.specs.List.{range_with_len}
use Rattle.std.specs.Option.{option_map}
use Rattle.store_care.specs.Holdings.{newest_at}
use Rattle.store_care.proofs.settling.newest_stamps.Given as goal

abbrev pub invariant-loop-seat : goal.invariant-loop-seat
invariant-loop-seat g l = record {
  same : l.store ≡ l.fn.store;
  there : l.block < l.fn.store.config.blocks;
  stamps : l.stamps.items ≡ map (λ seat. option_map (λ v. v.stamp) (newest_at l.fn.store l.block seat)) (range_with_len 0 l.seat);
  ends : l.seat-end ≡ l.fn.store.config.n;
}
