use Rattle.std.proofs.Common.{◌≡◌, ◌++◌, map, drop, All}
use Rattle.protocol.specs.Seen.{record_of}
use Rattle.protocol.specs.Report.{spent_writes}
use Rattle.history_making.specs.Tellings.{told_spent}
use Rattle.history_making.specs.Numbers.{HasClient}
use Rattle.history_making.proofs.counts.spent_writes.Given as goal

abbrev pub invariant-loop-operation : goal.invariant-loop-operation
invariant-loop-operation l = record {
  spent : map told_spent (spent_writes (map record_of l.records)) ≡ l.spent ++ map told_spent (spent_writes (map record_of (drop l.operation-index l.records)));
  numbers : All HasClient l.spent;
}
