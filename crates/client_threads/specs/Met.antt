-- What a pass that meets others leaves as it was.
use Rattle.std.specs.Prelude.{◌≡◌, ◌≤◌}
use Rattle.event_clock.specs.Passes.{Holder}
use Rattle.locked_nodes.specs.Cells.{CellView}
use Rattle.client_desks.specs.Desks.{DeskView}
use Rattle.client_duties.specs.declared.work.ClientDuty.{ClientDuty}
use Rattle.phase_threads.specs.declared.duty.Seat.{Seat}

-- but for what it has seen, which only grows, the pass is as it was
pub record IsKeeper (old new : Holder) : Type 0 where
  pub clock : new.clock ≡ old.clock
  pub number : new.number ≡ old.number
  pub drawn : new.drawn ≡ old.drawn
  pub seen : old.seen ≤ new.seen

-- but for what its pass has seen, the cell is as it was
pub record HasMetCell (old new : CellView) : Type 0 where
  pub charter : new.charter ≡ old.charter
  pub journal : new.journal ≡ old.journal
  pub pass : IsKeeper old.pass new.pass

-- but for what its pass has seen, the desk is as it was
pub record HasMetDesk (old new : DeskView) : Type 0 where
  pub config : new.config ≡ old.config
  pub id : new.id ≡ old.id
  pub lying : new.lying ≡ old.lying
  pub entries : new.entries ≡ old.entries
  pub pass : IsKeeper old.pass new.pass

-- and its thread's duty
pub record HasMetSeat (old new : Seat ClientDuty) : Type 0 where
  pub duty : new.duty ≡ old.duty
  pub desk : HasMetDesk old.desk new.desk
