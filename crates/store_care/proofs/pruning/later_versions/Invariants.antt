use Rattle.std.proofs.Common.{◌≡◌, ◌-◌, ◌^◌, min}
use Rattle.store_device.specs.Stores.{seat_at}
use Rattle.store_care.specs.Pruning.{later_in}
use Rattle.store_care.proofs.pruning.later_versions.Given as goal

abbrev pub invariant-loop-block : goal.invariant-loop-block
invariant-loop-block g l = record {
  same : l.store ≡ l.fn.store;
  ends : l.block-end ≡ l.fn.store.config.blocks;
  count : l.count ≡ min (later_in (seat_at l.fn.store l.seat) l.block) (2 ^ 64 - 1);
}
