-- Lemmas of `Closing`.
use Rattle.plan_followed.proofs.Closing.{begins, goes_on, closes, ends_all}
use Rattle.plan_followed.proofs.laws.phases_close.Goals as goal

pub returns : goal.returns
returns c = record { begins = begins; goes_on = goes_on; closes = closes; ends = ends_all }
