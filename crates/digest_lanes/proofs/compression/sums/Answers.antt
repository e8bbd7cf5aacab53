use Rattle.digest_lanes.proofs.Rounds.{added, totals_vectors}
use Rattle.digest_lanes.proofs.compression.sums.Goals as goal

pub returns-clause-vectors : goal.returns-clause-vectors
returns-clause-vectors c = totals_vectors c.args.s c.args.v c.requires.before c.requires.after

pub returns-clause-each : goal.returns-clause-each
returns-clause-each c = added c.args.s c.args.v c.requires.before c.requires.after
