use Rattle.std.proofs.Common.{◌∙◌, arith}
use Rattle.client_duties.proofs.OncePaired.{drops_only, drops_next, drops_on}
use Rattle.client_duties.proofs.ways.drops_to.Goals as goal

pub returns-then-count-gt0 : goal.returns-then-count-gt0
returns-then-count-gt0 c =
    let m = c.drops_by-count.ensures in
    let l = c.if-count-gt0.true in
    m ∙ drops_only c.args.rules.now c.loop-rule.rule-index c.rule-item.result c.args.client c.args.node c.loop-rule-test.true c.rule-item.is (omega arith) c.loop-rule.invariant.distinct ∙ c.loop-rule.invariant.same

pub loop-rule-preserved : goal.loop-rule-preserved
loop-rule-preserved c =
    let m = c.drops_by-count.ensures in
    let l = c.if-count-gt0.false in
    record {
      same = drops_next c.args.rules.now c.loop-rule.rule-index c.rule-item.result c.args.client c.args.node c.loop-rule-test.true c.rule-item.is (omega arith) ∙ c.loop-rule.invariant.same;
      distinct = drops_on c.args.rules.now c.loop-rule.rule-index c.rule-item.result c.loop-rule-test.true c.rule-item.is c.loop-rule.invariant.distinct;
    }
