use Rattle.std.proofs.Common.{ap, arith}
use Rattle.quorum_rules.specs.Limits.{Numbers}
use Rattle.version_disk.proofs.Keeping.{kept_own}
use Rattle.version_disk.proofs.lemmas.Playing.{held_config}
use Rattle.version_disk.proofs.stored.StoredNode.open.Goals as goal

pub invariant_of-result : goal.invariant_of-result
invariant_of-result g c =
    let D = g.D.Disk in
    let own = held_config c.args.config.now c.args.number (D.seen c.start.new.disk) c.in-Ok.node c.in-Ok.ensures.kept.state in (
      λ whole. kept_own D.pending D.seen c.args.config.now c.args.number c.in-Ok.node c.in-Ok.count c.start.new.disk c.in-Ok.ensures.kept,
      λ broken. absurd cc,
      (let below = c.requires.number in let n = ap (λ (k : Numbers). k.n) own.0 in let number = own.1 in omega (arith, below, n, number)),
    )
