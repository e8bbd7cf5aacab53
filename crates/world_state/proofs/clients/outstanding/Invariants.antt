use Rattle.std.proofs.Common.{◌≡◌}
use Rattle.protocol.specs.Count.{collect}
use Rattle.protocol.specs.Instance.{setting}
use Rattle.protocol.specs.Seen.{outstanding_of}
use Rattle.world_state.proofs.clients.outstanding.Given as goal

abbrev pub invariant-loop-node : goal.invariant-loop-node
invariant-loop-node l = l.mail ≡ collect l.node (outstanding_of (setting l.config) l.client.id l.client.seen.task)
