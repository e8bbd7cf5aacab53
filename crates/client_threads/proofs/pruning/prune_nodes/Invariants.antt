use Rattle.client_threads.proofs.Places.{HavePrunedTo}
use Rattle.client_threads.proofs.pruning.prune_nodes.Given as goal

-- the nodes so far have pruned
abbrev pub invariant-loop-node : goal.invariant-loop-node
invariant-loop-node l = HavePrunedTo l.plan l.clock l.fn.keeper l.keeper l.prunings l.node l.fn.cells l.cells
