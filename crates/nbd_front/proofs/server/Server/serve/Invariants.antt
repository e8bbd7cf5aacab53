use Rattle.std.proofs.Common.{◌≡◌, ◌-◌}
use Rattle.outside_io.specs.Written.{AllFlushed}
use Rattle.nbd_front.specs.Sessions.{most_requests}
use Rattle.nbd_front.specs.Servers.{bytes_of}
use Rattle.nbd_front.proofs.Runs.{HasGone}
use Rattle.nbd_front.proofs.server.Server.serve.Given as goal

abbrev pub invariant-loop-next : goal.invariant-loop-next
invariant-loop-next g l = record {
  gone : HasGone (bytes_of l.initial.server) l.initial.server.served l.initial.server.place (bytes_of l.server) l.server.served l.server.place (g.S.Source.left l.initial.source) (g.S.Source.left l.source) (g.K.Sink.taken l.initial.sink) (g.K.Sink.taken l.sink);
  reads : g.S.Source.faults l.source ≡ g.S.Source.faults l.initial.source;
  writes : g.K.Sink.faults l.sink ≡ g.K.Sink.faults l.initial.sink;
  flushed : AllFlushed (g.K.Sink.taken l.initial.sink) (g.K.Sink.flushed l.initial.sink) → AllFlushed (g.K.Sink.taken l.sink) (g.K.Sink.flushed l.sink);
}

abbrev pub decreases-loop-next : goal.decreases-loop-next
decreases-loop-next g l = most_requests - l.server.served
