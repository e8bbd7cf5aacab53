-- The law's clauses are lemmas.
use Rattle.world_steps.proofs.SingleEvents.{alone, there, in_runs}
use Rattle.world_steps.proofs.laws.an_event_is_its_line.Goals as goal

pub returns : goal.returns
returns a = record { alone = alone; there = there; allowed = in_runs }
