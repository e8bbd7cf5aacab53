use Rattle.std.proofs.Common.{◌≡◌}
use Rattle.outside_io.specs.Written.{AllFlushed}
use Rattle.nbd_handshake.proofs.Going.{HasGone}
use Rattle.nbd_handshake.proofs.handshake.haggle.Given as goal

abbrev pub invariant-loop-count : goal.invariant-loop-count
invariant-loop-count g l = record {
  gone : HasGone l.fn.export l.fn.short l._count l.place (g.S.Source.left l.fn.source) (g.S.Source.left l.source) (g.K.Sink.taken l.fn.sink) (g.K.Sink.taken l.sink);
  reads : g.S.Source.faults l.source ≡ g.S.Source.faults l.fn.source;
  writes : g.K.Sink.faults l.sink ≡ g.K.Sink.faults l.fn.sink;
  flushed : AllFlushed (g.K.Sink.taken l.fn.sink) (g.K.Sink.flushed l.fn.sink) → AllFlushed (g.K.Sink.taken l.sink) (g.K.Sink.flushed l.sink);
}
