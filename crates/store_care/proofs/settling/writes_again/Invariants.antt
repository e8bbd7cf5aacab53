use Rattle.std.proofs.Common.{◌≡◌, take}
use Rattle.store_care.specs.Settling.{writes_by}
use Rattle.store_care.proofs.settling.writes_again.Given as goal

abbrev pub invariant-loop-k : goal.invariant-loop-k
invariant-loop-k g l = record {
  same : l.store ≡ l.fn.store;
  writes : l.again.items ≡ writes_by l.fn.store (take l.k l.reads) l.outcomes;
}
