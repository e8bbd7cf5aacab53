use Rattle.node_workers.proofs.Answering.{has_met}
use Rattle.node_workers.proofs.worker.answer_to.Goals as goal

pub returns-clause-met : goal.returns-clause-met
returns-clause-met c =
    let e = c.answer-told.ensures in
    has_met c.answer-told.result c.args.cell.now c.answer-told.new.self c.args.asked.way c.args.asked.ask c.answer-told.new.caller c.args.asked.note e.cell e.told e.err
