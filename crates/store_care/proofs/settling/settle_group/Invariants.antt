use Rattle.std.proofs.Common.{◌≡◌}
use Rattle.store_care.proofs.Tried.{AreTried}
use Rattle.store_care.proofs.settling.settle_group.Given as goal

abbrev pub invariant-loop-turn : goal.invariant-loop-turn
invariant-loop-turn g l = record {
  config : l.store.config ≡ l.fn.store.config;
  tried : AreTried g.D.Disk.pending g.D.Disk.seen g.D.Disk.most g.D.Disk.moment g.D.Disk.left_since l.fn.first l.fn.count l._turn l.fn.store l.store;
}
