use Rattle.std.proofs.Common.{◌≡◌, ◌++◌, map, take}
use Rattle.protocol.specs.Seen.{record_of}
use Rattle.client_threads.specs.Reads.{early_in, late_in}
use Rattle.client_threads.proofs.reads.add_reads.Given as goal

abbrev pub invariant-loop-record : goal.invariant-loop-record
invariant-loop-record l = record {
  early : l.early.items ≡ l.fn.early.items ++ early_in l.begun (map record_of (take l.record-index l.records));
  late : l.late.items ≡ l.fn.late.items ++ late_in l.begun (map record_of (take l.record-index l.records));
}
