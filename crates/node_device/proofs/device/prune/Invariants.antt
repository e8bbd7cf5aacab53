use Rattle.std.proofs.Common.{◌≡◌, ◌++◌, map, take, drop}
use Rattle.node_device.specs.Devices.{pruned_at}
use Rattle.node_device.proofs.device.prune.Given as goal

abbrev pub invariant-loop-node : goal.invariant-loop-node
invariant-loop-node l = l.node-items ≡ map (pruned_at l.block l.stamp) (take l.node-index l.initial.node-items) ++ drop l.node-index l.initial.node-items
