use Rattle.std.proofs.Common.{◌≡◌, false, Some, sym, ◌∙◌, ap, subst}
use Rattle.version_disk.specs.Stored.{Stored}
use Rattle.store_device.specs.declared.seat.Seat.{Seat}
use Rattle.store_device.specs.Stores.{SeenStore, IsSound, IsStore}
use Rattle.store_device.proofs.Reseated.{reseated, still_seats}
use Rattle.store_device.proofs.store.Store.seat_node.Goals as goal

pub invariant_of-self : goal.invariant_of-self
invariant_of-self g c =
    let D = g.D.Disk in
    let node = λ (seat : Seat g.row.D.Denot). seat.node in
    let own = c.self.inside in
    let now = c.args.self.now in
    let n = c.args.node in
    let store : IsStore D.pending D.seen now = subst (λ (s : SeenStore g.row.D.Denot). IsStore D.pending D.seen s) c.self.view_is c.self.invariant.0 in
    let sound = λ (m : Stored g.row.D.Denot) (there : Some n ≡ Some m) (whole : m.broken ≡ false). (
    let same : n ≡ m = cc in
    subst (IsSound D.pending D.seen now.config c.args.seat) same (c.requires.sound (ap (λ (x : Stored g.row.D.Denot). x.broken) same ∙ whole))) in
    let then = reseated node own.config now own.seats.items c.self.view_is c.args.seat (record { node = Some n; asks = c.index_mut.result.now.asks; replies = c.index_mut.result.now.replies; starved = c.index_mut.result.now.starved }) in
    (subst (λ (s : SeenStore g.row.D.Denot). IsStore D.pending D.seen s) (sym then) (still_seats D.pending D.seen now store c.args.seat (Some n) sound), c.self.invariant.1, c.self.invariant.2)

pub returns : goal.returns
returns g c =
    let node = λ (seat : Seat g.row.D.Denot). seat.node in
    let own = c.self.inside in
    reseated node own.config c.args.self.now own.seats.items c.self.view_is c.args.seat (record { node = Some c.args.node; asks = c.index_mut.result.now.asks; replies = c.index_mut.result.now.replies; starved = c.index_mut.result.now.starved })
