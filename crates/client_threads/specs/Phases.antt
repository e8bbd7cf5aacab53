-- What a run asks of the one that does its phases.
use Rattle.std.specs.Prelude.{Result, IfOk}
use Rattle.std.specs.declared.vec.Vec.{Vec}
use Rattle.event_clock.specs.Passes.{ClockId}
use Rattle.locked_nodes.specs.Cells.{CellView}
use Rattle.phase_threads.specs.declared.duty.Seat.{Seat}
use Rattle.phase_threads.specs.declared.phase.Left.{Left}
use Rattle.phase_threads.specs.Phases.{MayPhase, HasPhased}
use Rattle.client_duties.specs.declared.work.ClientDuty.{ClientDuty}
use Rattle.client_duties.specs.ClientDuty.{Ready, Done}

-- it may be called where a phase may be done, and then leaves what a phase does
pub record DoesPhases {Z E : Type 0} (pre : ClockId → Vec CellView Z → Vec (Seat ClientDuty) Z → Type 0) (post : ClockId → Vec CellView Z → Vec (Seat ClientDuty) Z → Result (ClockId × Left ClientDuty) E → Type 0) : Type 0 where
  pub may : (clock : ClockId) (cells : Vec CellView Z) (seats : Vec (Seat ClientDuty) Z) → MayPhase Ready clock cells.items seats.items → pre clock cells seats
  pub does : (clock : ClockId) (cells : Vec CellView Z) (seats : Vec (Seat ClientDuty) Z) (r : Result (ClockId × Left ClientDuty) E) → MayPhase Ready clock cells.items seats.items → post clock cells seats r → IfOk r (λ l. HasPhased Done clock cells.items seats.items l.0 l.1)
