-- Nodes may go to other threads.
use denote.Param.Send.{IsSend, sendable}
use Rattle.std.proofs.Crossing.{crosses}
use Rattle.std.proofs.MapsCrossing as maps
use Rattle.cross_sum.proofs.bytes.Bytes.TheSendSync as bytes
use Rattle.cross_sum.proofs.sum.CrossSum.TheSendSync as sum
use Rattle.node_core.specs.contracts.node.Node as node

pub node_send : IsSend node.the_row
node_send = search (sendable, crosses, maps.crosses, bytes.the_send, sum.the_send) depth 60 fits 50000
