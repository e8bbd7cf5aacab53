use Rattle.std.proofs.Common.{◌≡◌, ◌+◌, map, sum_by, drop}
use Rattle.protocol.specs.Seen.{record_of}
use Rattle.protocol.specs.Report.{rounds_of}
use Rattle.history_making.proofs.counts.rounds_of.Given as goal

abbrev pub invariant-loop-operation : goal.invariant-loop-operation
invariant-loop-operation l = sum_by (λ r. rounds_of r.outcome) (map record_of l.records) ≡ l.sum + sum_by (λ r. rounds_of r.outcome) (map record_of (drop l.operation-index l.records))
