use Rattle.std.proofs.Common.{◌≡◌}
use Rattle.pasis_store.specs.Upkeep.{IsTended}
use Rattle.pasis_store.proofs.compacting.compact_due.Given as goal

abbrev pub invariant-loop-seat : goal.invariant-loop-seat
invariant-loop-seat l = record {
  same : l.store.config ≡ l.fn.store.config;
  tended : IsTended l.fn.store l.store;
}
