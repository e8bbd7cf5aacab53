use Rattle.std.proofs.Common.{◌≡◌, map}
use Rattle.std.specs.List.{range_with_len}
use Rattle.node_core.specs.Seen.{new_node}
use Rattle.node_device.proofs.device.NodeDevice.new.Given as goal

abbrev pub invariant-loop-number : goal.invariant-loop-number
invariant-loop-number l = l.nodes.items ≡ map (new_node l.config) (range_with_len 0 l.number)
