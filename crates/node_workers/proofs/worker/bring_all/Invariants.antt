use Rattle.locked_nodes.specs.Cells.{HasMoreAside}
use Rattle.node_workers.proofs.worker.bring_all.Given as goal

abbrev pub invariant-loop : goal.invariant-loop
invariant-loop g l = HasMoreAside l.initial.cell l.cell
