use Rattle.std.proofs.Common.{◌≡◌, None, length, ap, subst}
use Rattle.node_core.specs.Seen.{SeenNode}
use Rattle.slot_disk.specs.Bodies.{IsClosedAt}
use Rattle.slot_disk.specs.Slots.{body_len}
use Rattle.version_disk.specs.Compacted.{kept_slots, compacted_len}
use Rattle.version_disk.specs.Held.{held, slots_of, first_bad}
use Rattle.version_disk.specs.Stored.{Stored}
use Rattle.version_disk.proofs.Journals.{own_grown, kept_whole, journal_closed, journal_held, journal_slots, journal_good, length-journal}
use Rattle.version_disk.proofs.stored.StoredNode.compact.Goals as goal

pub write_journal-requires-clause-whole : goal.write_journal-requires-clause-whole
write_journal-requires-clause-whole g c =
    let D = g.D.Disk in
    let i = c.self.inside in
    kept_whole i.node.config i.node.number i.node (own_grown i.node (D.seen i.disk) (c.self.invariant.0 c.if-self.false).state)

pub write_journal-requires-clause-count : goal.write_journal-requires-clause-count
write_journal-requires-clause-count g c =
    let D = g.D.Disk in
    let i = c.self.inside in
    (own_grown i.node (D.seen i.disk) (c.self.invariant.0 c.if-self.false).state).count

pub returns-in-Ok-clause-state : goal.returns-in-Ok-clause-state
returns-in-Ok-clause-state g c =
    let D = g.D.Disk in
    let E = g.E.Disk in
    let i = c.self.inside in
    let bytes = E.seen c.write_journal.new.disk in
    let same : i.node ≡ c.args.self.now.node = ap (λ (t : Stored g.row.D.Denot). t.node) c.self.view_is in
    subst (λ (n : SeenNode). held n.config n.number bytes ≡ n) same
    (journal_held i.node.config i.node.number i.node (own_grown i.node (D.seen i.disk) (c.self.invariant.0 c.if-self.false).state) c.in-Ok.ensures.fitting bytes c.in-Ok.ensures.journal)

pub returns-in-Ok-clause-slots : goal.returns-in-Ok-clause-slots
returns-in-Ok-clause-slots g c =
    let D = g.D.Disk in
    let E = g.E.Disk in
    let i = c.self.inside in
    let bytes = E.seen c.write_journal.new.disk in
    let same : i.node ≡ c.args.self.now.node = ap (λ (t : Stored g.row.D.Denot). t.node) c.self.view_is in
    subst (λ (n : SeenNode). slots_of n.config bytes ≡ kept_slots n) same
    (journal_slots i.node.config i.node.number i.node (own_grown i.node (D.seen i.disk) (c.self.invariant.0 c.if-self.false).state) c.in-Ok.ensures.fitting bytes c.in-Ok.ensures.journal)

pub returns-in-Ok-clause-good : goal.returns-in-Ok-clause-good
returns-in-Ok-clause-good g c =
    let D = g.D.Disk in
    let E = g.E.Disk in
    let i = c.self.inside in
    let bytes = E.seen c.write_journal.new.disk in
    let same : i.node ≡ c.args.self.now.node = ap (λ (t : Stored g.row.D.Denot). t.node) c.self.view_is in
    subst (λ (n : SeenNode). first_bad n.config n.number bytes ≡ None) same
    (journal_good i.node.config i.node.number i.node (own_grown i.node (D.seen i.disk) (c.self.invariant.0 c.if-self.false).state) c.in-Ok.ensures.fitting bytes c.in-Ok.ensures.journal)

pub returns-in-Ok-clause-len : goal.returns-in-Ok-clause-len
returns-in-Ok-clause-len g c =
    let E = g.E.Disk in
    let i = c.self.inside in
    let bytes = E.seen c.write_journal.new.disk in
    let same : i.node ≡ c.args.self.now.node = ap (λ (t : Stored g.row.D.Denot). t.node) c.self.view_is in
    subst (λ (n : SeenNode). length bytes ≡ compacted_len n) same (length-journal i.node.config (kept_slots i.node) bytes c.in-Ok.ensures.fitting c.in-Ok.ensures.journal)

pub returns-in-Ok-clause-closed : goal.returns-in-Ok-clause-closed
returns-in-Ok-clause-closed g c =
    let D = g.D.Disk in
    let E = g.E.Disk in
    let i = c.self.inside in
    let bytes = E.seen c.write_journal.new.disk in
    let same : i.node ≡ c.args.self.now.node = ap (λ (t : Stored g.row.D.Denot). t.node) c.self.view_is in
    subst (λ (n : SeenNode). IsClosedAt (body_len n.config) bytes (length (kept_slots n))) same
    (journal_closed i.node.config i.node.number i.node (own_grown i.node (D.seen i.disk) (c.self.invariant.0 c.if-self.false).state) c.in-Ok.ensures.fitting bytes c.in-Ok.ensures.journal)
