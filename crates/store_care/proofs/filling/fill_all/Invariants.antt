use Rattle.std.proofs.Common.{◌≡◌, ◌≤◌, List, length}
use Rattle.store_device.specs.Calls.{Call, Leads}
use Rattle.store_care.specs.Filling.{AreFilling, AreGroups, groups_of, nothing}
use Rattle.store_care.proofs.filling.fill_all.Given as goal

abbrev pub invariant-loop-group : goal.invariant-loop-group
invariant-loop-group g l = record {
  config : l.store.config ≡ l.fn.store.config;
  blocks : l.blocks ≡ l.fn.store.config.blocks;
  most : l.blocks ≤ 268435456;
  ends : l.group-end ≡ groups_of l.blocks;
  calls : (calls : List (Call _)) × Leads g.D.Disk.pending g.D.Disk.seen g.D.Disk.most g.D.Disk.moment g.D.Disk.left_since l.fn.store calls l.store
      × AreGroups l.fn.store.config.blocks 0 calls × (length calls ≡ l.group)
      × AreFilling g.E.Disk.pending g.E.Disk.seen l.fn.store.config l.number calls nothing l.filled l.fn.node l.node;
}
