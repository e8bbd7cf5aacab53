use Rattle.std.proofs.Common.{◌≡◌, ◌≤◌, ◌-◌, ◌*◌, length}
use Rattle.std.specs.List.{flat_map, range_with_len}
use Rattle.block_device.specs.Steps.{steps_in}
use Rattle.block_device.proofs.cutting.step_count.Given as goal

abbrev pub invariant-loop-touched : goal.invariant-loop-touched
invariant-loop-touched l = record {
  counted : l.count ≡ length (flat_map (steps_in l.config.size l.op) (range_with_len l.initial.touched (l.touched - l.initial.touched)));
  few : l.count ≤ 2 * l.touched;
}
