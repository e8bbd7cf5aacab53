use Rattle.protocol.specs.Seen.{SeenTask}
use Rattle.node_device.specs.Phases.{IsAsking}
use Rattle.node_device.proofs.Phases.{IsUnderWay}
use Rattle.node_device.proofs.asking.ask.Given as goal

abbrev pub invariant-loop-message : goal.invariant-loop-message
invariant-loop-message l =
    (t : SeenTask) × (asking : IsAsking l.initial.nodes.items l.initial.client t l.initial.mail)
    × IsUnderWay l.initial.nodes.items l.initial.client t l.initial.mail asking l.message-index l.nodes.items l.client
