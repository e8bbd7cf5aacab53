-- The law is a lemma of `Rebuilt`, by what calls acknowledge, and what the latest acknowledged operation of a block gave.
use Rattle.store_care.proofs.Rebuilt.{filled_rebuilt}
use Rattle.store_care.proofs.laws.filled_are_rebuilt.Goals as goal

pub returns : goal.returns
returns g c =
    filled_rebuilt g.D.Disk.pending g.D.Disk.seen g.E.Disk.pending g.E.Disk.seen c.sessions_are_lives.ensures.acknowledged
    c.lives_are_linearizable.ensures.latest
