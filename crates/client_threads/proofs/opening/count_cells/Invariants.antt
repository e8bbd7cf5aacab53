use Rattle.std.proofs.Common.{◌≡◌}
use Rattle.client_threads.specs.Opened.{cell_count}
use Rattle.client_threads.proofs.opening.count_cells.Given as goal

abbrev pub invariant-loop-node : goal.invariant-loop-node
invariant-loop-node l = l.count ≡ cell_count l.plan l.shards l.node
