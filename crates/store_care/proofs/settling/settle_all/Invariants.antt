use Rattle.std.proofs.Common.{◌≡◌, ◌<◌, ◌*◌, ℕ, List}
use Rattle.store_care.specs.Filling.{groups_of}
use Rattle.store_care.specs.Settling.{IsTriedOut, Try, TriesLead}
use Rattle.store_care.proofs.settling.settle_all.Given as goal

abbrev pub invariant-loop-group : goal.invariant-loop-group
invariant-loop-group g l = record {
  config : l.store.config ≡ l.fn.store.config;
  blocks : l.blocks ≡ l.fn.store.config.blocks;
  ends : l.group-end ≡ groups_of l.blocks;
  tries : (tries : List (Try _)) × TriesLead g.D.Disk.pending g.D.Disk.seen g.D.Disk.most g.D.Disk.moment g.D.Disk.left_since l.fn.store tries l.store
      × ((block : ℕ) → block < l.group * 64 → block < l.blocks → IsTriedOut l.fn.store tries block);
}
