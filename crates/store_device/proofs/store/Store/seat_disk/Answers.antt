use Rattle.std.proofs.Common.{◌≡◌, ◌∙◌, ap, subst, sym}
use Rattle.quorum_rules.specs.Limits.{Numbers}
use Rattle.version_disk.specs.Held.{held}
use Rattle.store_device.specs.Stores.{SeenStore}
use Rattle.store_device.specs.Seating.{with_seat, IsOpened}
use Rattle.std.specs.Prelude.{Some}
use Rattle.store_device.proofs.store.Store.seat_disk.Goals as goal

pub returns-clause-seated : goal.returns-clause-seated
returns-clause-seated g c =
    let n = c.in_ok-node.node in
    let opened = c.in_ok-node.ensures in
    let e = ap (λ k. with_seat c.args.self.now k (Some n)) c.from.ensures in (
      n,
      c.seat_node.ensures ∙ e,
      opened.state ∙ ap (λ (s : SeenStore g.row.D.Denot). held s.config c.args.seat (g.D.Disk.seen c.args.disk)) c.self.view_is,
      opened.whole,
      record {
        config = opened.config ∙ ap (λ (s : SeenStore g.row.D.Denot). s.config) c.self.view_is;
        numbered = opened.number;
        durable = opened.durable;
        state = sym (ap (λ (s : SeenStore g.row.D.Denot). held s.config c.args.seat (g.D.Disk.seen n.disk)) c.self.view_is) ∙ opened.held;
      },
    )

pub returns-clause-opened : goal.returns-clause-opened
returns-clause-opened g c =
    let D = g.D.Disk in
    let n = c.in_ok-node.node in
    let opened = c.in_ok-node.ensures in
    let view = c.self.view_is in
    let config : c.self.inside.config ≡ c.args.self.now.config = ap (λ (s : SeenStore g.row.D.Denot). s.config) view in
    let is : IsOpened D.pending D.seen D.most D.moment D.left_since D.faults c.self.inside.config c.args.seat c.args.disk n = record {
      state = opened.state;
      slots = opened.slots;
      good = opened.good;
      room = opened.room;
      later = opened.later;
      any_moment = opened.any_moment;
    } in (
      n,
      c.seat_node.ensures ∙ ap (λ k. with_seat c.args.self.now k (Some n)) c.from.ensures,
      subst (λ (d : Numbers). IsOpened D.pending D.seen D.most D.moment D.left_since D.faults d c.args.seat c.args.disk n) config is,
    )
