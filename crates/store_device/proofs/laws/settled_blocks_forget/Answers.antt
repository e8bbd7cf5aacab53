-- The law's clauses are lemmas of `LifeSettled` and `LifeHeld`, by the laws of the lives of blocks.
use Rattle.store_device.proofs.LifeSettled.{settled_forget, held_settle, stores_hold}
use Rattle.store_device.proofs.LifeHeld.{held_forget, calls_stay_held}
use Rattle.store_device.proofs.laws.settled_blocks_forget.Goals as goal

pub returns : goal.returns
returns g a = record {
  forgets = λ c. settled_forget c a.settled_lives.ensures.forgotten;
  settles = λ c. held_settle c a.settled_lives.ensures.held a.settled_lives.ensures.stays;
  held_forgets = λ c. held_forget c a.settled_lives.ensures.held_forgotten;
  calls = λ c. calls_stay_held c;
  holds = stores_hold g.D.Disk.pending g.D.Disk.seen;
}
