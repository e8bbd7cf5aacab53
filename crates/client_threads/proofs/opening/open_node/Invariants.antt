use Rattle.std.proofs.Common.{◌≡◌, ◌+◌, length, All}
use Rattle.client_threads.specs.Opened.{IsUnusedPass, AreNewCells}
use Rattle.client_threads.proofs.opening.open_node.Given as goal

-- the cells of the shards so far are new
abbrev pub invariant-loop-shard : goal.invariant-loop-shard
invariant-loop-shard l = record {
  cells : AreNewCells l.plan l.shards l.clock l.number l.shard l.cells.items;
  unused : All (IsUnusedPass l.clock) l.passes;
  left : length l.passes + l.shard ≡ length l.fn.passes;
}
