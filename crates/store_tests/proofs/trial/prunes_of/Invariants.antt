use Rattle.std.proofs.Common.{◌<◌}
use Rattle.std.specs.List.{All}
use Rattle.store_device.specs.Seating.{ArePrunesApart}
use Rattle.store_tests.proofs.trial.prunes_of.Given as goal

abbrev pub invariant-loop-block : goal.invariant-loop-block
invariant-loop-block l = record {
  below : All (λ p. p.block < l.block) l.prunes.items;
  apart : ArePrunesApart l.prunes.items;
}
