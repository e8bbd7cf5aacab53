use Rattle.std.proofs.Common.{◌≡◌, ◌-◌, ◌^◌, length, take}
use Rattle.std.specs.Prelude.{min}
use Rattle.version_disk.specs.Compacted.{slots_from}
use Rattle.version_disk.proofs.compact.kept_count.Given as goal

abbrev pub invariant-loop-block : goal.invariant-loop-block
invariant-loop-block l = length l.node.blocks ≡ l.node.config.blocks → l.kept ≡ min (length (slots_from 0 (take l.block l.node.blocks))) (2 ^ 64 - 1)
