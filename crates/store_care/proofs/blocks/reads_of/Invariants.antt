use Rattle.std.proofs.Common.{◌≡◌, ◌+◌, ◌-◌, ◌≤◌}
use Rattle.quorum_rules.specs.Limits.{Numbers}
use Rattle.store_care.specs.Batches.{AreBelow}
use Rattle.store_care.specs.Given.{reads_from}
use Rattle.store_care.proofs.blocks.reads_of.Given as goal

abbrev pub invariant-loop-block : goal.invariant-loop-block
invariant-loop-block l = record {
  begun : l.fn.first ≤ l.block;
  batch : (c : Numbers) → l.fn.first + l.fn.count ≤ c.blocks → AreBelow c l.block l.ops.items;
  reads : l.ops.items ≡ reads_from l.fn.first (l.block - l.fn.first);
  ends : l.block-end ≡ l.fn.first + l.fn.count;
}
