use Rattle.std.proofs.Common.{◌≡◌, [], replicate}
use Rattle.batch_clients.specs.Parts.{lists_of}
use Rattle.batch_clients.proofs.asking.no_asks.Given as goal

abbrev pub invariant-loop-node : goal.invariant-loop-node
invariant-loop-node l = lists_of l.asks.items ≡ replicate l._node []
