use Rattle.client_threads.specs.Met.{IsKeeper}
use Rattle.client_threads.proofs.Stepping.{Partly}
use Rattle.client_threads.proofs.Keepers.{MeetsCell}
use Rattle.client_threads.proofs.meeting.meet_cells.Given as goal

-- the cells so far have met the pass
abbrev pub invariant-loop-cell : goal.invariant-loop-cell
invariant-loop-cell l = IsKeeper l.fn.keeper l.keeper × Partly (MeetsCell l.fn.keeper.seen l.keeper.seen) l.fn.cells l.cells l.cell-index
