use Rattle.std.proofs.Common.{◌≡◌, ◌≤◌, get_or, refl, ap, arith}
use Rattle.std.proofs.lemmas.Option.{slice_get-get_or}
use Rattle.client_desks.specs.Desks.{KeptDesk}
use Rattle.phase_threads.specs.declared.duty.Seat.{Seat}
use Rattle.client_duties.specs.declared.work.ClientDuty.{ClientDuty}
use Rattle.client_threads.specs.Met.{HasMetSeat}
use Rattle.client_threads.proofs.Stepping.{partly_all, partly_old, partly_long}
use Rattle.client_threads.proofs.Stepping.Partly.{Same}
use Rattle.client_threads.proofs.Working.{zip_map}
use Rattle.client_threads.proofs.Keepers.{MeetsSeat, same_keeper, keeper_on, meets_seat, seats_on, zip_right, all_desks, partly_next}
use Rattle.client_threads.proofs.meeting.meet_desks.Goals as goal
use Rattle.lists.proofs.lemmas.Members.{all_at_place}

pub loop-seat-init : goal.loop-seat-init
loop-seat-init c = (same_keeper c.args.keeper.now, Same c.args.seats.now)

pub meet-requires-clause-clock : goal.meet-requires-clause-clock
meet-requires-clause-clock c =
    let low = c.args.keeper.now.seen in
    let seats = c.args.seats.now in
    let i = c.loop-seat.seat-index in
    let x = get_or c.loop-seat.seats i c.seat-item.result in
    let at = slice_get-get_or c.loop-seat.seats i c.seat-item.result (omega (arith, c.loop-seat-test.true, c.loop-seat.auto.seats)) in
    let was = partly_old (MeetsSeat low c.loop-seat.keeper.seen) seats c.loop-seat.seats i x c.loop-seat.invariant.1 at in
    all_at_place (λ x. x.desk.pass.clock ≡ c.args.clock.now) seats i x c.requires.desks was

pub loop-seat-preserved : goal.loop-seat-preserved
loop-seat-preserved c =
    let first = c.args.keeper.now in
    let low = first.seen in
    let old = c.args.seats.now in
    let inv = c.loop-seat.invariant in
    let i = c.loop-seat.seat-index in
    let x = get_or c.loop-seat.seats i c.seat-item.result in
    let keeper = c.loop-seat.keeper in
    let next = c.meet.new.other in
    let y : Seat ClientDuty = record { desk = c.meet.new.self; duty = x.duty } in
    let at = slice_get-get_or c.loop-seat.seats i c.seat-item.result (omega (arith, c.loop-seat-test.true, c.loop-seat.auto.seats)) in
    let goes = keeper_on first keeper x.desk.pass next inv.0 c.meet.ensures.other in
    let grew : keeper.seen ≤ next.seen = omega (arith, ap (λ p. p.seen) c.meet.ensures.other) in (
      goes,
      partly_next (MeetsSeat low next.seen) old c.loop-seat.seats i x y (seats_on low keeper.seen next.seen old c.loop-seat.seats i grew inv.1) at (meets_seat low keeper next x y inv.0.seen c.meet.ensures.other c.meet.ensures.desk refl c.known.ensures),
    )

pub returns-clause-seats : goal.returns-clause-seats
returns-clause-seats c =
    let R = MeetsSeat c.args.keeper.now.seen c.loop-seat.keeper.seen in
    let p = c.loop-seat.invariant.1 in
    let long = partly_long R c.args.seats.now c.loop-seat.seats c.loop-seat.seat-index p in
    let z = partly_all R c.args.seats.now c.loop-seat.seats c.loop-seat.seat-index p (omega (arith, long, c.loop-seat-test.false)) in
    zip_map R HasMetSeat c.args.seats.now c.loop-seat.seats (λ x y m. m.met) z

pub returns-clause-seen : goal.returns-clause-seen
returns-clause-seen c =
    let low = c.args.keeper.now.seen in
    let high = c.loop-seat.keeper.seen in
    let R = MeetsSeat low high in
    let p = c.loop-seat.invariant.1 in
    let long = partly_long R c.args.seats.now c.loop-seat.seats c.loop-seat.seat-index p in
    let z = partly_all R c.args.seats.now c.loop-seat.seats c.loop-seat.seat-index p (omega (arith, long, c.loop-seat-test.false)) in
    zip_right R (λ x. (low ≤ x.desk.pass.seen) × (x.desk.pass.seen ≤ high)) c.args.seats.now c.loop-seat.seats (λ x y m. (m.within.low, m.within.high)) z

pub returns-clause-kept : goal.returns-clause-kept
returns-clause-kept c =
    let R = MeetsSeat c.args.keeper.now.seen c.loop-seat.keeper.seen in
    let p = c.loop-seat.invariant.1 in
    let long = partly_long R c.args.seats.now c.loop-seat.seats c.loop-seat.seat-index p in
    let z = partly_all R c.args.seats.now c.loop-seat.seats c.loop-seat.seat-index p (omega (arith, long, c.loop-seat-test.false)) in
    all_desks c.loop-seat.seats (zip_right R (λ s. KeptDesk s.desk) c.args.seats.now c.loop-seat.seats (λ x y m. m.kept) z)
