use Rattle.std.proofs.Common.{◌≡◌, ◌-◌}
use Rattle.std.specs.List.{flat_map, range_with_len}
use Rattle.block_device.specs.Steps.{steps_in}
use Rattle.block_device.proofs.cutting.steps_of.Given as goal

abbrev pub invariant-loop-block : goal.invariant-loop-block
invariant-loop-block l = l.steps ≡ flat_map (steps_in l.config.size l.op) (range_with_len l.initial.block (l.block - l.initial.block))
