use Rattle.std.proofs.Common.{refl}
use Rattle.sha2.proofs.Schedule256.{rounds_first}
use Rattle.digest_lanes.specs.Lanes.{lane}
use Rattle.digest_lanes.proofs.Vectors.{lane_at}
use Rattle.digest_lanes.proofs.compression.block_round.Goals as goal

pub returns-clause-each : goal.returns-clause-each
returns-clause-each c = λ j lt b h window held.
    rounds_first b h (lane c.args.w.now j) (lane c.args.v j) c.args.t _ _ _ c.requires.t window held refl
    (lane_at 16 c.args.w.now c.args.t j c.requires.words c.requires.t) (c.round.ensures.each j lt)
