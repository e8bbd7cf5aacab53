use Rattle.std.proofs.Common.{All}
use Rattle.locked_nodes.specs.Cells.{KeptCell}
use Rattle.client_threads.proofs.Stepping.{Partly}
use Rattle.client_threads.proofs.Mailing.{HasAllAside}
use Rattle.client_threads.proofs.mail.bring_all.Given as goal

-- the cells so far have what came
abbrev pub invariant-loop-cell : goal.invariant-loop-cell
invariant-loop-cell g l = Partly HasAllAside l.fn.cells l.cells l.cell-index × All KeptCell l.cells
