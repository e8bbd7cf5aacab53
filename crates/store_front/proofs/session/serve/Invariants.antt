use Rattle.std.proofs.Common.{◌≡◌}
use Rattle.store_front.proofs.Serving.{HasServed}
use Rattle.store_front.proofs.session.serve.Given as goal

abbrev pub invariant-loop-round : goal.invariant-loop-round
invariant-loop-round g l = record {
  ready : g.U.Keeper.ready l.keeper;
  config : l.store.config ≡ l.fn.store.config;
  reads : g.S.Source.faults l.source ≡ g.S.Source.faults l.fn.source;
  writes : g.K.Sink.faults l.sink ≡ g.K.Sink.faults l.fn.sink;
  served : HasServed g.D.Disk.pending g.D.Disk.seen g.D.Disk.most g.D.Disk.moment g.D.Disk.left_since l.fn.store.config g.U.Keeper.keeps l.fn.store l.store l._round l.session.place l.session.input (g.S.Source.left l.fn.source) (g.S.Source.left l.source) (g.K.Sink.taken l.fn.sink) (g.K.Sink.taken l.sink);
}
