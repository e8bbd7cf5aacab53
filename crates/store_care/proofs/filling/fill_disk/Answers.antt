use Rattle.std.proofs.Common.{subst}
use Rattle.quorum_rules.specs.Limits.{Numbers}
use Rattle.store_care.specs.Filling.{IsOpened}
use Rattle.store_care.proofs.filling.fill_disk.Goals as goal

pub returns-clause-calls : goal.returns-clause-calls
returns-clause-calls g c =
    let E = g.E.Disk in
    let e = c.in_ok-filled.ensures.calls in (
      e.0,
      e.1,
      e.2,
      (
        c.in-Some.node,
        subst (λ (n : Numbers). IsOpened E.pending E.seen n c.args.number (E.seen c.args.disk) c.in-Some.node) c.config.ensures c.in-Some.ensures,
        e.3.0,
        e.3.1,
      ),
    )
