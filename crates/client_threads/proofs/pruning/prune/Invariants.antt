use Rattle.std.proofs.Common.{take}
use Rattle.client_threads.proofs.Prunes.{IsPruning}
use Rattle.client_threads.proofs.pruning.prune.Given as goal

-- the prunes so far are done
abbrev pub invariant-loop-pruning : goal.invariant-loop-pruning
invariant-loop-pruning l = IsPruning l.clock l.fn.keeper l.keeper l.prunings l.node (take l.pruning-index l.prunings) l.fn.cells l.cells
