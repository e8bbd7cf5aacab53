use Rattle.std.proofs.Common.{◌<◌, ◌∙◌, length, arith, length-set}
use Rattle.protocol.specs.Instance.{setting}
use Rattle.candidate_class.proofs.lemmas.Nodes.{stamps_next, node_below}
use Rattle.candidate_class.proofs.answers.stamps_of.Goals as goal

pub loop-answer-preserved : goal.loop-answer-preserved
loop-answer-preserved c =
    let below = node_below c.args.config.now.n c.args.answers.now c.requires.nodes c.loop-answer.answer-index c.answer-item.result c.loop-answer-test.true c.answer-item.is in
    let places = c.loop-answer.invariant.0 in
    let most = c.requires.few in
    let inside : c.answer-item.result.node < length c.loop-answer.stamps = omega (arith, below, places, most) in (
      length-set c.loop-answer.stamps c.from.result c.valid_stamp.result ∙ places,
      rw c.from.ensures (stamps_next (setting c.args.config.now) c.args.bound.now c.args.config.now.n c.args.answers.now c.requires.nodes c.loop-answer.answer-index c.answer-item.result c.loop-answer-test.true c.answer-item.is c.valid_stamp.result c.valid_stamp.ensures c.loop-answer.stamps inside c.loop-answer.invariant.1),
    )
