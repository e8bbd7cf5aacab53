use Rattle.std.proofs.Common.{◌≡◌, false, length, sym, ◌∙◌, ap, subst, arith}
use Rattle.node_core.specs.Seen.{SeenNode}
use Rattle.slot_disk.specs.Bodies.{IsClosedAt}
use Rattle.slot_disk.specs.Slots.{body_len}
use Rattle.version_disk.specs.Compacted.{kept_slots, IsJournalOf}
use Rattle.version_disk.specs.Kept.{IsKept}
use Rattle.version_disk.specs.Stored.{Stored}
use Rattle.version_disk.proofs.Journals.{own_grown, few_slots}
use Rattle.version_disk.proofs.stored.StoredNode.go_on.Goals as goal

pub invariant_of-self : goal.invariant_of-self
invariant_of-self g c =
    let D = g.D.Disk in
    let i = c.self.inside in
    let disk = c.args.disk in
    let same : i.node ≡ c.args.self.now.node = ap (λ (t : Stored g.row.D.Denot). t.node) c.self.view_is in
    let up : i.broken ≡ false = ap (λ (t : Stored g.row.D.Denot). t.broken) c.self.view_is ∙ c.requires.whole in
    let was = c.self.invariant.0 up in
    let journal : IsJournalOf i.node (D.seen disk) (D.most disk) = subst (λ (n : SeenNode). IsJournalOf n (D.seen disk) (D.most disk)) (sym same) c.requires.journal in
    let told = c.kept_count-self-inside.ensures (own_grown i.node (D.seen i.disk) was.state).count in
    let count : c.kept_count-self-inside.result ≡ length (kept_slots i.node) =
    omega (arith, told, few_slots i.node, journal.fits, c.room-small.ensures.room, c.room-small.ensures.small) in
    let kept : IsKept D.pending D.seen i.node.config i.node.number i.node c.kept_count-self-inside.result disk = record {
      durable = c.requires.durable;
      closed = subst (IsClosedAt (body_len i.node.config) (D.seen disk)) (sym count) journal.closed;
      state = sym journal.state;
      good = journal.good;
    } in
    (λ e. subst (λ (d : _). IsKept D.pending D.seen i.node.config i.node.number i.node c.kept_count-self-inside.result d) (sym c.replace.ensures.after) kept, λ e. absurd (cc), c.self.invariant.2)
