use Rattle.std.proofs.Common.{◌≡◌, ◌++◌}
use Rattle.run_teller.specs.Columns.{node_columns}
use Rattle.run_teller.proofs.columns.add_nodes.Given as goal

abbrev pub invariant-loop-node : goal.invariant-loop-node
invariant-loop-node l = l.columns.items ≡ l.fn.columns.items ++ node_columns l.node l.liars
