use Rattle.std.proofs.Common.{sym, subst, length, Some}
use Rattle.store_device.specs.Answered.{RepliesIn, answer_of, gave}
use Rattle.store_device.proofs.Seats.{works_in}
use Rattle.store_device.proofs.seat.answer_in.Goals as goal

pub returns-clause-works : goal.returns-clause-works
returns-clause-works g c =
    let D = g.D.Disk in
    works_in D.pending D.seen D.moment D.left_since c.args.asks.now (answer_of c.answer.result) c.args.seat.now c.in-Some.node c.answer.new.node
    c.in-Some.is c.answer.ensures.down c.answer.ensures.up

pub returns-clause-replied : goal.returns-clause-replied
returns-clause-replied g c =
    let D = g.D.Disk in
    subst (λ seat. RepliesIn D.seen D.most (length c.args.asks.now) (gave c.answer.result) seat (Some c.answer.new.node)) (sym c.in-Some.is)
    c.answer.ensures.replied
