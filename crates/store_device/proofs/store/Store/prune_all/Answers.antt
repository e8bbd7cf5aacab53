use Rattle.std.proofs.Common.{◌++◌, length, map, take, drop, refl, ap, subst}
use Rattle.store_device.specs.declared.seat.Seat.{Seat}
use Rattle.store_device.specs.Stores.{SeenStore, IsStore, seat_at}
use Rattle.store_device.specs.Going.{store_with}
use Rattle.store_device.proofs.Reseated.{all_have, tried_back, back_count, still_store, has_pruned, prunes_in, wholly_back}
use Rattle.store_device.proofs.Carrying.{on_ok_then}
use Rattle.store_device.proofs.store.Store.prune_all.Goals as goal

pub prune_seats-requires-clause-blocks : goal.prune_seats-requires-clause-blocks
prune_seats-requires-clause-blocks g c lifetimes within =
    let D = g.D.Disk in
    let node = λ (seat : Seat g.row.D.Denot). seat.node in
    let own = c.self.inside in
    let now = c.args.self.now in
    let store : IsStore D.pending D.seen now = subst (λ (s : SeenStore g.row.D.Denot). IsStore D.pending D.seen s) c.self.view_is c.self.invariant.0 in
    all_have D.pending D.seen c.args.prunes.now D.moment D.left_since node own.config now own.seats.items c.deref_mut.result.now c.deref_mut.result.now own.seats.len
    c.deref_mut.ensures.value c.self.view_is c.deref_mut.ensures.len refl store c.requires.there

pub invariant_of-self : goal.invariant_of-self
invariant_of-self g c =
    let D = g.D.Disk in
    let node = λ (seat : Seat g.row.D.Denot). seat.node in
    let own = c.self.inside in
    let now = c.args.self.now in
    let new = c.prune_seats.new.seats in
    let then = store_with own.config (map node (take own.seats.len (new ++ drop (length new) own.seats.items))) own.acknowledged.items in
    let tried = tried_back D.pending D.seen c.args.prunes.now D.moment D.left_since node own.config now own.seats.items c.deref_mut.result.now new own.seats.len
    c.deref_mut.ensures.value c.self.view_is c.deref_mut.ensures.len c.prune_seats.ensures.count c.prune_seats.ensures.each in
    let store : IsStore D.pending D.seen now = subst (λ (s : SeenStore g.row.D.Denot). IsStore D.pending D.seen s) c.self.view_is c.self.invariant.0 in
    let count = back_count D.pending D.seen c.args.prunes.now D.moment D.left_since node own.config now own.seats.items c.deref_mut.result.now new own.seats.len
    c.deref_mut.ensures.value c.self.view_is c.deref_mut.ensures.len c.prune_seats.ensures.count in
    let same = ap (λ (s : SeenStore g.row.D.Denot). s.config) c.self.view_is in
    (still_store D.pending D.seen c.args.prunes.now D.moment D.left_since now then same count store tried, c.self.invariant.1, c.self.invariant.2)

pub returns-clause-seats : goal.returns-clause-seats
returns-clause-seats g c =
    let D = g.D.Disk in
    let node = λ (seat : Seat g.row.D.Denot). seat.node in
    let own = c.self.inside in
    let now = c.args.self.now in
    let new = c.prune_seats.new.seats in
    let then = store_with own.config (map node (take own.seats.len (new ++ drop (length new) own.seats.items))) own.acknowledged.items in
    let tried = tried_back D.pending D.seen c.args.prunes.now D.moment D.left_since node own.config now own.seats.items c.deref_mut.result.now new own.seats.len
    c.deref_mut.ensures.value c.self.view_is c.deref_mut.ensures.len c.prune_seats.ensures.count c.prune_seats.ensures.each in
    λ i. prunes_in D.pending D.seen c.args.prunes.now D.moment D.left_since (seat_at now i) (seat_at then i) (tried i)

pub returns-clause-pruned : goal.returns-clause-pruned
returns-clause-pruned g c =
    let D = g.D.Disk in
    let disk = g.met.D.Disk g.world.𝓛 g.world.𝓜 g.world.𝓡 ((λ s x. x), (λ x. x), (λ x. x), λ x. x) in
    let node = λ (seat : Seat g.row.D.Denot). seat.node in
    let own = c.self.inside in
    let now = c.args.self.now in
    let new = c.prune_seats.new.seats in
    let then = store_with own.config (map node (take own.seats.len (new ++ drop (length new) own.seats.items))) own.acknowledged.items in
    let tried = tried_back D.pending D.seen c.args.prunes.now D.moment D.left_since node own.config now own.seats.items c.deref_mut.result.now new own.seats.len
    c.deref_mut.ensures.value c.self.view_is c.deref_mut.ensures.len c.prune_seats.ensures.count c.prune_seats.ensures.each in
    let store : IsStore D.pending D.seen now = subst (λ (s : SeenStore g.row.D.Denot). IsStore D.pending D.seen s) c.self.view_is c.self.invariant.0 in
    let count = back_count D.pending D.seen c.args.prunes.now D.moment D.left_since node own.config now own.seats.items c.deref_mut.result.now new own.seats.len
    c.deref_mut.ensures.value c.self.view_is c.deref_mut.ensures.len c.prune_seats.ensures.count in
    let same = ap (λ (s : SeenStore g.row.D.Denot). s.config) c.self.view_is in
    has_pruned D.pending D.seen c.args.prunes.now D.moment D.left_since now then same count store tried D.most
    (ap (λ (s : SeenStore g.row.D.Denot). s.acknowledged) c.self.view_is) c.requires.there c.requires.apart disk.counts_now

pub returns-clause-whole : goal.returns-clause-whole
returns-clause-whole g c =
    let D = g.D.Disk in
    let node = λ (seat : Seat g.row.D.Denot). seat.node in
    let own = c.self.inside in
    let now = c.args.self.now in
    let new = c.prune_seats.new.seats in
    on_ok_then _ _ c.prune_seats.result
    (wholly_back D.pending D.seen c.args.prunes.now D.moment D.left_since node own.config now own.seats.items c.deref_mut.result.now new
    own.seats.len c.deref_mut.ensures.value c.self.view_is c.deref_mut.ensures.len c.prune_seats.ensures.count D.most)
    c.prune_seats.ensures.whole
