use Rattle.std.proofs.Common.{◌≡◌, [], replicate}
use Rattle.node_core.proofs.node.Node.new.Given as goal

abbrev pub invariant-loop : goal.invariant-loop
invariant-loop l = l.blocks.items ≡ replicate l.counter []
