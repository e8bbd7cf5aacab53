use Rattle.std.proofs.Common.{◌≡◌, ◌+◌, ◌/◌, List, length}
use Rattle.store_device.specs.Calls.{Call, Leads}
use Rattle.store_care.proofs.Latest.{AreFirst}
use Rattle.store_care.proofs.remembered.prune_groups.Given as goal

abbrev pub invariant-loop-group : goal.invariant-loop-group
invariant-loop-group g l = record {
  config : l.store.config ≡ l.fn.store.config;
  ends : l.group-end ≡ (length l.prunes + 63) / 64;
  gone : (calls : List (Call _))
      × Leads g.D.Disk.pending g.D.Disk.seen g.D.Disk.most g.D.Disk.moment g.D.Disk.left_since l.fn.store calls l.store
      × AreFirst l.prunes l.group calls;
}
