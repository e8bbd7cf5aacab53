use Rattle.std.proofs.Common.{◌≡◌, ◌+◌, ◌-◌, ◌≤◌, length, take}
use Rattle.block_device.specs.Device.{merged}
use Rattle.nbd_front.specs.Arrays.{array_of, IsInOrder}
use Rattle.nbd_front.proofs.Progress.{reached}
use Rattle.nbd_front.proofs.Steps.{HaveWalked}
use Rattle.nbd_front.proofs.array.write_range.Given as goal

abbrev pub invariant-loop-block : goal.invariant-loop-block
invariant-loop-block l = record {
  order : IsInOrder l.device;
  config : l.device.config ≡ l.initial.device.config;
  life : l.device.life ≡ l.initial.device.life;
  steps : l.device.started ≤ l.initial.device.started + (l.block + l.block);
  array : array_of l.device.held ≡ merged (array_of l.initial.device.held) l.start (take (reached l.initial.device.config.size l.start (l.start + length l.bytes) l.block - l.start) l.bytes);
  times : HaveWalked l.initial.block l.block l.initial.device l.device;
}
