-- The law is a lemma of `MostKept`.
use Rattle.store_care.proofs.MostKept.{settled_blocks_hold}
use Rattle.store_care.proofs.laws.settled_blocks_hold.Goals as goal

pub returns : goal.returns
returns g c = settled_blocks_hold g.row.D.Denot
