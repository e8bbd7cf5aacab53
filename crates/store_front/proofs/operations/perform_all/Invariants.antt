use Rattle.std.proofs.Common.{◌≡◌, ◌-◌, ◌≤◌, length}
use Rattle.store_front.specs.Values.{AreBlocks}
use Rattle.store_front.proofs.Asking.{HasGone}
use Rattle.store_front.proofs.operations.perform_all.Given as goal

abbrev pub invariant-loop-at : goal.invariant-loop-at
invariant-loop-at g l = record {
  config : l.store.config ≡ l.initial.store.config;
  within : l.at ≤ length l.ops;
  blocks : AreBlocks l.initial.store.config l.done.found;
  gone : HasGone g.D.Disk.pending g.D.Disk.seen g.D.Disk.most g.D.Disk.moment g.D.Disk.left_since l.initial.store.config l.initial.store l.store l.ops l.at l.initial.done.found.entries l.done.found.entries l.initial.done.written.keys l.done.written.keys;
}

abbrev pub decreases-loop-at : goal.decreases-loop-at
decreases-loop-at g l = length l.ops - l.at
