use Rattle.std.proofs.Common.{◌≡◌, length}
use Rattle.store_care.specs.Steps.{IsRestored}
use Rattle.store_care.proofs.care.Care.count_written.Given as goal

abbrev pub invariant-loop-k : goal.invariant-loop-k
invariant-loop-k g l = record {
  same : l.store ≡ l.fn.store;
  seats : length l.self.tallies.items ≡ length l.fn.self.tallies.items;
  restored : IsRestored l.fn.store.config.n l.fn.store l.lacking l.outcomes l.k l.fn.self l.self;
}
