use Rattle.std.proofs.Common.{◌≡◌, ◌+◌, map, length}
use Rattle.std.specs.List.{range_with_len}
use Rattle.store_device.specs.Stores.{SeenStore}
use Rattle.store_care.specs.Holdings.{newest_of}
use Rattle.store_care.specs.Steps.{AreLacking, HasLooked}
use Rattle.store_care.proofs.care.Care.look_at_all.Given as goal

abbrev pub invariant-loop-k : goal.invariant-loop-k
invariant-loop-k g l = record {
  same : l.store ≡ l.fn.store;
  block : l.block ≡ l.fn.first + l.k;
  seats : length l.self.tallies.items ≡ length l.fn.self.tallies.items;
  lacking : AreLacking l.fn.store.config l.fn.first (length l.before) l.outcomes l.k l.lacking;
  looked : (old : SeenStore _) → old.config ≡ l.fn.store.config
      → map (λ newest. newest.items) l.before ≡ map (newest_of old) (range_with_len l.fn.first (length l.before))
      → HasLooked old l.fn.store l.fn.first l.outcomes l.k l.fn.self l.self l.lacking;
}
