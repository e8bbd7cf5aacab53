use Rattle.std.proofs.Common.{sym}
use Rattle.node_core.proofs.Finding.{time_of_greatest, no_time}
use Rattle.node_core.proofs.kept.Kept.greatest_time.Goals as goal

pub returns-in-Some : goal.returns-in-Some
returns-in-Some c = sym (time_of_greatest _ _ (sym c.in-Some.ensures.greatest))

pub returns-in-None : goal.returns-in-None
returns-in-None c = sym (no_time _ (sym c.in-None.ensures.greatest))
