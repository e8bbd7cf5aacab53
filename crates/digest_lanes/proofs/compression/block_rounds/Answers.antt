use Rattle.digest_lanes.proofs.compression.block_rounds.Goals as goal

pub returns-clause-each : goal.returns-clause-each
returns-clause-each c = λ j lt b h window held.
    let s1 = c.four_block_rounds-v.ensures.each j lt b h window held in
    let s2 = c.four_block_rounds-v-2.ensures.each j lt b h window s1 in
    let s3 = c.four_block_rounds-v-3.ensures.each j lt b h window s2 in
    c.four_block_rounds.ensures.each j lt b h window s3
