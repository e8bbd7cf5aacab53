use Rattle.std.proofs.Common.{◌≡◌, ◌++◌, map, drop}
use Rattle.protocol.specs.Seen.{record_of}
use Rattle.history_making.specs.Drafts.{entries_of, candidates}
use Rattle.history_making.proofs.sweep.drafts.Given as goal

abbrev pub invariant-loop-operation : goal.invariant-loop-operation
invariant-loop-operation l = candidates (map record_of l.records) ≡ entries_of l.drafts.items ++ candidates (map record_of (drop l.operation-index l.records))
