use Rattle.locked_nodes.specs.Cells.{HasMoreAside}
use Rattle.client_threads.proofs.mail.bring.Given as goal

-- the cell has what came so far
abbrev pub invariant-loop : goal.invariant-loop
invariant-loop g l = HasMoreAside l.initial.cell l.cell
