use Rattle.std.proofs.Common.{ap, arith}
use Rattle.quorum_rules.specs.Limits.{Numbers}
use Rattle.version_disk.proofs.calm.«StoredNode+CalmDisk».opened_again.Goals as goal

pub open_calm-requires-clause-number : goal.open_calm-requires-clause-number
open_calm-requires-clause-number c =
    let below = c.self.invariant.2 in
    let number = c.number.ensures in
    let n = ap (λ (k : Numbers). k.n) c.config.ensures in
    omega (arith, below, number, n)
