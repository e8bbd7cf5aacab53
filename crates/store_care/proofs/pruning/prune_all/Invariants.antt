use Rattle.std.proofs.Common.{◌≡◌}
use Rattle.store_device.specs.Steps.{IsTended}
use Rattle.store_care.specs.Filling.{groups_of}
use Rattle.store_care.specs.Pruning.{HavePassed}
use Rattle.store_care.proofs.pruning.prune_all.Given as goal

abbrev pub invariant-loop-group : goal.invariant-loop-group
invariant-loop-group g l = record {
  config : l.store.config ≡ l.fn.store.config;
  blocks : l.blocks ≡ l.fn.store.config.blocks;
  ends : l.group-end ≡ groups_of l.blocks;
  passed : HavePassed g.D.Disk.pending g.D.Disk.seen g.D.Disk.most g.D.Disk.moment g.D.Disk.left_since l.most l.group l.fn.store l.store;
  tended : IsTended g.D.Disk.pending g.D.Disk.seen g.D.Disk.most g.D.Disk.moment g.D.Disk.left_since l.fn.store l.store;
}
