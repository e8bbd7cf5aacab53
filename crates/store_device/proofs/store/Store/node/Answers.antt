use Rattle.std.proofs.Common.{◌≡◌, ◌<◌, ℕ, true, ltb, List, length, get_or, sym, ◌∙◌, ap, subst, arith}
use Rattle.std.proofs.lemmas.Bool.Decides.{nat_tests}
use Rattle.std.specs.Option.{option_copied}
use Rattle.store_device.specs.declared.seat.Seat.{Seat}
use Rattle.store_device.specs.Stores.{SeenStore, IsStore, seat_at}
use Rattle.store_device.proofs.Reseated.{config_of, number_of, seat_there}
use Rattle.store_device.proofs.store.Store.node.Goals as goal

below : (k n : ℕ) → ltb k n ≡ true → k < n
below k n e = grind (arith, nat_tests)

pub returns-clause-config : goal.returns-clause-config
returns-clause-config g c =
    let D = g.D.Disk in
    let node = λ (seat : Seat g.row.D.Denot). seat.node in
    let own = c.self.inside in
    let now = c.args.self.now in
    let i = c.args.seat in
    let d = c.in_ok-get.field-0.now in
    let got = c.in_ok-get.ensures.lookup in
    let items = c.deref.ensures.value in
    let inside : i < length own.seats.items = subst (λ (l : List (Seat g.row.D.Denot)). i < length l) items (below i (length c.deref.result.now) (sym got.0)) in
    let there : option_copied c.as_ref.result ≡ seat_at now i =
    c.as_ref.ensures.value ∙ ap node got.1 ∙ ap (λ (l : List (Seat g.row.D.Denot)). node (get_or l i d)) items ∙ sym (seat_there node own.config now own.seats.items c.self.view_is i d inside) in
    let store : IsStore D.pending D.seen now = subst (λ (s : SeenStore g.row.D.Denot). IsStore D.pending D.seen s) c.self.view_is c.self.invariant.0 in
    config_of D.pending D.seen now store i c.as_ref.result there

pub returns-clause-number : goal.returns-clause-number
returns-clause-number g c =
    let D = g.D.Disk in
    let node = λ (seat : Seat g.row.D.Denot). seat.node in
    let own = c.self.inside in
    let now = c.args.self.now in
    let i = c.args.seat in
    let d = c.in_ok-get.field-0.now in
    let got = c.in_ok-get.ensures.lookup in
    let items = c.deref.ensures.value in
    let inside : i < length own.seats.items = subst (λ (l : List (Seat g.row.D.Denot)). i < length l) items (below i (length c.deref.result.now) (sym got.0)) in
    let there : option_copied c.as_ref.result ≡ seat_at now i =
    c.as_ref.ensures.value ∙ ap node got.1 ∙ ap (λ (l : List (Seat g.row.D.Denot)). node (get_or l i d)) items ∙ sym (seat_there node own.config now own.seats.items c.self.view_is i d inside) in
    let store : IsStore D.pending D.seen now = subst (λ (s : SeenStore g.row.D.Denot). IsStore D.pending D.seen s) c.self.view_is c.self.invariant.0 in
    number_of D.pending D.seen now store i c.as_ref.result there
