use Rattle.std.proofs.Common.{◌≡◌, take}
use Rattle.client_threads.specs.Reads.{early_reads, late_reads}
use Rattle.client_threads.proofs.reads.gather.Given as goal

-- what the clients gave whose turn it was
abbrev pub invariant-loop-seat : goal.invariant-loop-seat
invariant-loop-seat l = record {
  early : l.early.items ≡ early_reads l.begun (take l.seat-index l.seats);
  late : l.late.items ≡ late_reads l.begun (take l.seat-index l.seats);
}
