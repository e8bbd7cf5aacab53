use Rattle.std.proofs.Common.{◌<◌}
use Rattle.disk_tests.proofs.compaction.worked.Given as goal

abbrev pub invariant-loop-deed : goal.invariant-loop-deed
invariant-loop-deed g l = 0 < l.node.node.config.blocks
