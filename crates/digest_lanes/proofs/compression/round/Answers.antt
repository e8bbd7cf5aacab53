use Rattle.digest_lanes.proofs.Rounds.{vectors, rounded}
use Rattle.digest_lanes.proofs.compression.round.Goals as goal

pub returns-clause-vectors : goal.returns-clause-vectors
returns-clause-vectors c = vectors c.args.v c.args.k c.args.word _ _ _ _ c.requires c.fits-word.0 c.big_sigma1.ensures c.choice.ensures c.big_sigma0.ensures c.majority.ensures

pub returns-clause-each : goal.returns-clause-each
returns-clause-each c = rounded c.args.v c.args.k c.args.word _ _ _ _ c.requires c.fits-word.0 c.big_sigma1.ensures c.choice.ensures c.big_sigma0.ensures c.majority.ensures
