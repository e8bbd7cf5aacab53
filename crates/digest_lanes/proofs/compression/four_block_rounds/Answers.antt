use Rattle.std.proofs.Common.{ap, ◌∙◌, arith}
use Rattle.sha2.specs.Sha256.{rounds, schedule}
use Rattle.digest_lanes.proofs.compression.four_block_rounds.Goals as goal

pub returns-clause-each : goal.returns-clause-each
returns-clause-each c = λ j lt b h window held.
    let after = rounds h (schedule b 48) in
    let s1 = c.block_round-v.ensures.each j lt b h window held in
    let s2 = c.block_round-v-2.ensures.each j lt b h window s1 in
    let s3 = c.block_round-v-3.ensures.each j lt b h window (s2 ∙ ap after (omega arith)) in
    c.block_round.ensures.each j lt b h window (s3 ∙ ap after (omega arith)) ∙ ap after (omega arith)
