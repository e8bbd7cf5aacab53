use Rattle.std.proofs.Common.{◌≡◌, ◌-◌, ◌^◌, false, subst}
use Rattle.std.specs.Prelude.{min}
use Rattle.version_disk.specs.Compacted.{compacted_len}
use Rattle.version_disk.specs.Stored.{Stored}
use Rattle.version_disk.proofs.Journals.{own_grown}
use Rattle.version_disk.proofs.stored.StoredNode.journal_len.Goals as goal

pub returns-clause-compacted : goal.returns-clause-compacted
returns-clause-compacted g c =
    let D = g.D.Disk in
    let i = c.self.inside in
    subst (λ (t : Stored g.row.D.Denot). t.broken ≡ false → c.compacted_size.result ≡ min (compacted_len t.node) (2 ^ 64 - 1)) c.self.view_is
    (λ whole. c.compacted_size.ensures (own_grown i.node (D.seen i.disk) (c.self.invariant.0 whole).state).count)
