-- The law's clauses are lemmas.
use Rattle.store_device.proofs.Calling.{calls_go_on, calls_keep}
use Rattle.store_device.proofs.Stamps.{steps_remember}
use Rattle.store_device.proofs.lemmas.Steps.{lead_then}
use Rattle.store_device.proofs.laws.calls_follow.Goals as goal

pub returns : goal.returns
returns a c = record { calls = calls_go_on _ _ _ _ _; keep = calls_keep _ _ _ _ _; steps = lead_then _ _ _ _ _; remember = steps_remember _ _ _ _ _ }
