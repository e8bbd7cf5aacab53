use Rattle.std.proofs.Common.{◌≡◌, ◌+◌, ◌≤◌, ◌++◌, slice_range}
use Rattle.nbd_front.specs.Arrays.{array_of}
use Rattle.nbd_front.proofs.Progress.{reached}
use Rattle.nbd_front.proofs.array.read_range.Given as goal

abbrev pub invariant-loop-block : goal.invariant-loop-block
invariant-loop-block l = record {
  same : l.device ≡ record l.initial.device { started = l.device.started };
  steps : l.device.started ≤ l.initial.device.started + l.block;
  text : l.text.items ≡ l.initial.text.items ++ slice_range (array_of l.initial.device.held) l.start (reached l.initial.device.config.size l.start (l.start + l.len) l.block);
}
