-- The law's clauses are lemmas of `Sessions` and `Acknowledging`.
use Rattle.store_device.proofs.Sessions.{stores_open, steps_are_lives, stores_left, crashes_are_lives, calls_keep_present}
use Rattle.store_device.proofs.Acknowledging.{calls_acknowledge}
use Rattle.store_device.proofs.laws.sessions_are_lives.Goals as goal

pub returns : goal.returns
returns a c = record {
  opens = stores_open _ _;
  steps = steps_are_lives _ _ _ _ _;
  left = stores_left _ _;
  crashed = crashes_are_lives _ _ _ _ _;
  acknowledged = calls_acknowledge a.D.Disk.pending a.D.Disk.seen;
  present = calls_keep_present a.D.Disk.pending a.D.Disk.seen;
}
