use Rattle.std.proofs.Common.{map}
use Rattle.std.specs.Vec.Iter.{into_iter_items, into_iter_len}
use Rattle.protocol.specs.Seen.{record_of}
use Rattle.client_threads.proofs.Together.{Finished}
use Rattle.client_threads.proofs.closing.finish_desks.Given as goal

abbrev pub invariant-loop-seat : goal.invariant-loop-seat
invariant-loop-seat l = Finished l.fn.seats.items l.fn.passes (into_iter_items l.seat-iterator) (into_iter_len l.seat-iterator) l.journals l.passes (map record_of l.records)
