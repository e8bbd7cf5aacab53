use Rattle.std.proofs.Common.{◌≡◌}
use Rattle.store_care.specs.Tallies.{failed_reads}
use Rattle.store_care.specs.Filling.{asks_for}
use Rattle.store_care.proofs.filling.Filled.asks_for.Given as goal

abbrev pub invariant-loop-k : goal.invariant-loop-k
invariant-loop-k l = record {
  asks : l.asks.items ≡ asks_for l.config l.number l.reads l.outcomes l.k;
  missed : l.self ≡ record l.fn.self { missed = failed_reads l.config.size l.outcomes l.k l.fn.self.missed };
}
