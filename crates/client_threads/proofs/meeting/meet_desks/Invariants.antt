use Rattle.client_threads.specs.Met.{IsKeeper}
use Rattle.client_threads.proofs.Stepping.{Partly}
use Rattle.client_threads.proofs.Keepers.{MeetsSeat}
use Rattle.client_threads.proofs.meeting.meet_desks.Given as goal

-- the desks so far have met the pass
abbrev pub invariant-loop-seat : goal.invariant-loop-seat
invariant-loop-seat l = IsKeeper l.fn.keeper l.keeper × Partly (MeetsSeat l.fn.keeper.seen l.keeper.seen) l.fn.seats l.seats l.seat-index
