use Rattle.std.proofs.Common.{◌≡◌, ◌≤◌, ◌+◌, ◌-◌, length}
use Rattle.store_care.specs.Batches.{AreBelow}
use Rattle.store_care.specs.Pruning.{overfull}
use Rattle.store_care.proofs.pruning.overfull_reads.Given as goal

abbrev pub invariant-loop-block : goal.invariant-loop-block
invariant-loop-block g l = record {
  same : l.store ≡ l.fn.store;
  there : l.end ≤ l.fn.store.config.blocks;
  ends : l.end ≡ l.fn.first + l.fn.count;
  begun : l.fn.first ≤ l.block;
  batch : AreBelow l.fn.store.config l.block l.reads.items;
  few : length l.reads.items + l.fn.first ≤ l.block;
  reads : l.reads.items ≡ overfull l.fn.store l.fn.first (l.block - l.fn.first) l.most;
}
