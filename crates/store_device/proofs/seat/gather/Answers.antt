use Rattle.std.proofs.Common.{◌<◌, refl, ◌∙◌, ap, arith, get_or}
use Rattle.std.proofs.Math.Seq.{map-set_same}
use Rattle.store_device.specs.declared.seat.Seat.{Seat}
use Rattle.store_device.proofs.Listing.{more_taken, rest_stays}
use Rattle.store_device.proofs.seat.gather.Goals as goal

pub returns-in_err-push-clause-nodes : goal.returns-in_err-push-clause-nodes
returns-in_err-push-clause-nodes g c = map-set_same (λ (seat : Seat g.row.D.Denot). seat.node) c.loop-seat.seats c.loop-seat.seat-index _
    c.seat-item.result refl ∙ c.loop-seat.invariant.0

pub loop-seat-preserved : goal.loop-seat-preserved
loop-seat-preserved g c =
    let inv = c.loop-seat.invariant in
    let i = c.loop-seat.seat-index in
    let was = get_or c.loop-seat.seats i c.seat-item.result in
    let taken : Seat g.row.D.Denot = record { node = was.node; asks = was.asks; replies = c.take.new.self; starved = was.starved } in
    let l : i < _ = c.loop-seat-test.true in (
      map-set_same (λ (seat : Seat g.row.D.Denot). seat.node) c.loop-seat.seats i taken c.seat-item.result refl ∙ inv.0,
      more_taken (λ (seat : Seat g.row.D.Denot). seat.replies) c.args.seats.now i c.seat-item.result c.loop-seat.answers.items
          c.push.new.self.items c.take.result l inv.1 c.in_ok-push.ensures.items
          (c.take.ensures.value ∙ ap (λ (seat : Seat g.row.D.Denot). seat.replies) (inv.2 i c.seat-item.result (omega arith))),
      rest_stays c.loop-seat.seats c.args.seats.now i taken inv.2,
    )
