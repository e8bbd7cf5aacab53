use Rattle.std.proofs.Common.{arith}
use Rattle.sha2.proofs.Schedule256.{IsRoundsAt_at}
use Rattle.digest_lanes.proofs.compression.sixteen_rounds.Goals as goal

pub returns-clause-each : goal.returns-clause-each
returns-clause-each c = λ j lt b h held.
    let s1 = c.four_scheduled_rounds-v.ensures.each j lt b h (IsRoundsAt_at b h _ _ _ _ (omega arith) held) in
    let s2 = c.four_scheduled_rounds-v-2.ensures.each j lt b h s1 in
    let s3 = c.four_scheduled_rounds-v-3.ensures.each j lt b h s2 in
    let s4 = c.four_scheduled_rounds.ensures.each j lt b h s3 in
    IsRoundsAt_at b h _ _ _ _ (omega arith) s4
