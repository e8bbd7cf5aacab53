use Rattle.std.proofs.Common.{◌≡◌, List, map, Option, refl, sym, subst}
use Rattle.std.specs.Prelude.{OnOk}
use Rattle.protocol.specs.Messages.{Reply}
use Rattle.protocol.specs.Instance.{setting}
use Rattle.batch_clients.specs.Batches.{AreAnswersTo, after_answers}
use Rattle.store_device.specs.declared.seat.Seat.{Seat}
use Rattle.store_device.proofs.Handing.{are_handed, are_answers, have_replied}
use Rattle.store_device.proofs.Carrying.{on_err, on_ok_and}
use Rattle.store_device.proofs.phase.go_through.Goals as goal

pub returns-in_err-none_starved-clause-handed : goal.returns-in_err-none_starved-clause-handed
returns-in_err-none_starved-clause-handed g c =
    let D = g.D.Disk in
    let answers = map (λ (seat : Seat g.row.D.Denot). seat.replies) c.work.new.seats in (
      answers,
      are_handed D.pending D.seen D.moment D.left_since (λ (seat : Seat g.row.D.Denot). seat.node)
          (λ (seat : Seat g.row.D.Denot). seat.asks.items) (λ (seat : Seat g.row.D.Denot). seat.replies)
          c.args.batch.now.config c.args.batch.now.runs (map (λ a. a.items) c.args.asks.items) c.args.seats.now c.hand_out.new.seats
          c.work.new.seats c.work.new.seats
          c.requires.count c.requires.asks c.hand_out.ensures.nodes c.hand_out.ensures.asks c.work.ensures.count c.work.ensures.each
          refl,
      on_err _ c.from_residual.result c.from_residual.ensures.0,
    )

pub returns-in_err-answers-clause-handed : goal.returns-in_err-answers-clause-handed
returns-in_err-answers-clause-handed g c =
    let D = g.D.Disk in
    let answers = map (λ (seat : Seat g.row.D.Denot). seat.replies) c.work.new.seats in (
      answers,
      are_handed D.pending D.seen D.moment D.left_since (λ (seat : Seat g.row.D.Denot). seat.node)
          (λ (seat : Seat g.row.D.Denot). seat.asks.items) (λ (seat : Seat g.row.D.Denot). seat.replies)
          c.args.batch.now.config c.args.batch.now.runs (map (λ a. a.items) c.args.asks.items) c.args.seats.now c.hand_out.new.seats
          c.work.new.seats c.gather.new.seats
          c.requires.count c.requires.asks c.hand_out.ensures.nodes c.hand_out.ensures.asks c.work.ensures.count c.work.ensures.each
          c.gather.ensures.nodes,
      on_err _ c.from_residual-in_err-answers.result c.from_residual-in_err-answers.ensures.0,
    )

pub hear-requires-clause-answers : goal.hear-requires-clause-answers
hear-requires-clause-answers g c κs within =
    let D = g.D.Disk in
    subst (λ (answers : List (Option (List Reply))). AreAnswersTo (setting c.args.batch.now.config) c.args.batch.now.runs answers)
    (sym c.in_ok-answers.ensures.answers)
    (are_answers D.pending D.seen D.moment D.left_since (λ (seat : Seat g.row.D.Denot). seat.node)
    (λ (seat : Seat g.row.D.Denot). seat.asks.items) (λ (seat : Seat g.row.D.Denot). seat.replies)
    c.args.batch.now.config c.args.batch.now.runs (map (λ a. a.items) c.args.asks.items) c.args.seats.now c.hand_out.new.seats
    c.work.new.seats c.gather.new.seats
    c.requires.count c.requires.asks c.hand_out.ensures.nodes c.hand_out.ensures.asks c.work.ensures.count c.work.ensures.each
    c.gather.ensures.nodes)

pub returns-clause-handed : goal.returns-clause-handed
returns-clause-handed g c =
    let D = g.D.Disk in (
      map (λ (seat : Seat g.row.D.Denot). seat.replies) c.work.new.seats,
      are_handed D.pending D.seen D.moment D.left_since (λ (seat : Seat g.row.D.Denot). seat.node)
          (λ (seat : Seat g.row.D.Denot). seat.asks.items) (λ (seat : Seat g.row.D.Denot). seat.replies)
          c.args.batch.now.config c.args.batch.now.runs (map (λ a. a.items) c.args.asks.items) c.args.seats.now c.hand_out.new.seats
          c.work.new.seats c.gather.new.seats
          c.requires.count c.requires.asks c.hand_out.ensures.nodes c.hand_out.ensures.asks c.work.ensures.count c.work.ensures.each
          c.gather.ensures.nodes,
      on_ok_and _ _ c.hear.result
          (subst (λ (answers : List (Option (List Reply))). OnOk c.hear.result
          (c.hear.new.self.runs ≡ after_answers (setting c.args.batch.now.config) 0 answers c.args.batch.now.runs))
          c.in_ok-answers.ensures.answers c.hear.ensures.runs)
          (have_replied D.pending D.seen D.moment D.left_since (λ (seat : Seat g.row.D.Denot). seat.node)
          (λ (seat : Seat g.row.D.Denot). seat.asks.items) (λ (seat : Seat g.row.D.Denot). seat.replies)
          c.args.batch.now.config c.args.batch.now.runs (map (λ a. a.items) c.args.asks.items) c.args.seats.now c.hand_out.new.seats
          c.work.new.seats c.gather.new.seats
          c.requires.count c.requires.asks c.hand_out.ensures.nodes c.hand_out.ensures.asks c.work.ensures.count c.work.ensures.each
          c.gather.ensures.nodes D.most (λ (seat : Seat g.row.D.Denot). seat.starved) c.work.ensures.replied c.in_ok-none_starved.ensures),
    )
