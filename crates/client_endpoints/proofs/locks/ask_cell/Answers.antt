-- Lemmas of `Turns`.
use Rattle.client_endpoints.proofs.Turns.{answer_back, leaves_side}
use Rattle.client_endpoints.proofs.locks.ask_cell.Goals as goal

pub give-requires-clause-grew : goal.give-requires-clause-grew
give-requires-clause-grew g c =
    let e = c.answer-answer.ensures in
    answer_back c.answer-answer.result c.take-cell.result c.answer-answer.new.self c.args.way c.args.ask.now c.note-note.result c.answer-answer.new.caller e.cell e.err c.args.chit.now c.take-cell.new.chit c.take-cell.ensures.chit

pub returns-clause-side : goal.returns-clause-side
returns-clause-side g c =
    leaves_side c.take-cell.result c.answer-answer.new.self c.args.way c.args.ask.now c.in_ok-told.told c.args.chit.now c.take-cell.new.chit c.give.new.chit c.take-cell.ensures.chit c.give.ensures c.in_ok-told.ensures.cell c.in_ok-told.ensures.told
