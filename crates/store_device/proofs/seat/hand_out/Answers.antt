use Rattle.std.proofs.Common.{◌≡◌, ◌<◌, [], length, get_or, map, refl, sym, ◌∙◌, ap, arith}
use Rattle.std.proofs.Math.Seq.{map-set_same}
use Rattle.std.proofs.lemmas.List.{length-set, length-map, get_or-map}
use Rattle.store_device.specs.declared.seat.Seat.{Seat}
use Rattle.store_device.proofs.Listing.{more_set, all_set, rest_stays}
use Rattle.store_device.proofs.seat.hand_out.Goals as goal

pub loop-i-preserved : goal.loop-i-preserved
loop-i-preserved g c =
    let inv = c.loop-i.invariant in
    let i = c.loop-i.i in
    let given = c.args.asks.items in
    let d = c.index_mut.result.now in
    let below : i < length given = omega (arith, c.loop-i-test.true, c.requires) in
    let seats_below : i < length c.loop-i.seats = omega (arith, c.loop-i-test.true, c.loop-i.auto.seats) in
    let items_below : i < length (map (λ a. a.items) given) = omega (arith, below, length-map given (λ a. a.items)) in
    let was = get_or c.loop-i.seats i c.index-seats-i.result in
    let handed : Seat g.row.D.Denot = record { node = was.node; asks = c.swap.new.x; replies = was.replies; starved = was.starved } in
    let is : c.swap.new.x ≡ get_or given i d = c.swap.ensures.x_after ∙ c.index_mut.ensures.value ∙ inv.3 i d (omega arith) in (
      map-set_same (λ (seat : Seat g.row.D.Denot). seat.node) c.loop-i.seats i handed c.index-seats-i.result refl ∙ inv.0,
      more_set (λ (seat : Seat g.row.D.Denot). seat.asks.items) c.loop-i.seats (map (λ a. a.items) given) i handed [] seats_below items_below
          inv.1
          (ap (λ a. a.items) is ∙ sym (get_or-map (λ a. a.items) given i d [] below)),
      length-set c.loop-i.asks.items i c.swap.new.y ∙ inv.2,
      rest_stays c.loop-i.asks.items given i c.swap.new.y inv.3,
    )

pub returns-clause-asks : goal.returns-clause-asks
returns-clause-asks g c =
    let seats = c.loop-i.seats in
    let given = c.args.asks.items in
    all_set (map (λ (seat : Seat g.row.D.Denot). seat.asks.items) seats) (map (λ a. a.items) given) c.loop-i.i
    (omega (arith, c.loop-i-test.false, c.loop-i.auto.seats, length-map seats (λ (seat : Seat g.row.D.Denot). seat.asks.items)))
    (omega (arith, c.loop-i-test.false, c.requires, length-map given (λ a. a.items))) c.loop-i.invariant.1
