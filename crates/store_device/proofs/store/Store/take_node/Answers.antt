use Rattle.std.proofs.Common.{◌≡◌, false, None, Some, sym, ◌∙◌, ap, subst}
use Rattle.std.specs.Prelude.{Option}
use Rattle.version_disk.specs.Stored.{Stored}
use Rattle.store_device.specs.declared.seat.Seat.{Seat}
use Rattle.store_device.specs.Stores.{SeenStore, IsStore}
use Rattle.store_device.specs.Seating.{with_seat}
use Rattle.store_device.proofs.Reseated.{reseated, still_seats}
use Rattle.store_device.proofs.store.Store.take_node.Goals as goal

pub invariant_of-self-2 : goal.invariant_of-self-2
invariant_of-self-2 g c =
    let D = g.D.Disk in
    let node = λ (seat : Seat g.row.D.Denot). seat.node in
    let own = c.self.inside in
    let now = c.args.self.now in
    let i = c.args.seat in
    let was = c.in_ok-get_mut.field-0.now in
    let store : IsStore D.pending D.seen now = subst (λ (s : SeenStore g.row.D.Denot). IsStore D.pending D.seen s) c.self.view_is c.self.invariant.0 in
    let nobody = λ (n : Stored g.row.D.Denot) (there : None ≡ Some n) (whole : n.broken ≡ false). absurd cc in
    let then = reseated node own.config now own.seats.items c.self.view_is i (record { node = c.take.new.self; asks = was.asks; replies = was.replies; starved = was.starved })
    ∙ ap (λ (seat : Option (Stored g.row.D.Denot)). with_seat now i seat) c.take.ensures.after in
    (subst (λ (s : SeenStore g.row.D.Denot). IsStore D.pending D.seen s) (sym then) (still_seats D.pending D.seen now store i None nobody), c.self.invariant.1, c.self.invariant.2)

pub returns-clause-gone : goal.returns-clause-gone
returns-clause-gone g c =
    let node = λ (seat : Seat g.row.D.Denot). seat.node in
    let own = c.self.inside in
    let now = c.args.self.now in
    let i = c.args.seat in
    let was = c.in_ok-get_mut.field-0.now in
    reseated node own.config now own.seats.items c.self.view_is i (record { node = c.take.new.self; asks = was.asks; replies = was.replies; starved = was.starved })
    ∙ ap (λ (seat : Option (Stored g.row.D.Denot)). with_seat now i seat) c.take.ensures.after
