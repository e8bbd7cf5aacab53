use Rattle.std.proofs.Common.{◌≡◌, ◌≤◌, ◌-◌, map}
use Rattle.std.specs.List.{range_with_len}
use Rattle.store_care.specs.Holdings.{newest_of}
use Rattle.store_care.proofs.newest.newest_of_all.Given as goal

abbrev pub invariant-loop-block : goal.invariant-loop-block
invariant-loop-block g l = record {
  same : l.store ≡ l.fn.store;
  begun : l.fn.first ≤ l.block;
  newest : map (λ newest. newest.items) l.all.items ≡ map (newest_of l.fn.store) (range_with_len l.fn.first (l.block - l.fn.first));
}
