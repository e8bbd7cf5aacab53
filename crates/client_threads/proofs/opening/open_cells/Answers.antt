use Rattle.std.proofs.Common.{arith}
use Rattle.client_threads.proofs.Newcomers.{none_new, count_next, count_on}
use Rattle.client_threads.proofs.opening.open_cells.Goals as goal

pub loop-number-init : goal.loop-number-init
loop-number-init c = record {
  cells = none_new c.args.plan.now c.args.shards c.args.clock.now c.new-cells.result.items c.new-cells.ensures.items;
  unused = c.requires.unused;
  left = omega arith;
}

pub open_node-requires-clause-enough : goal.open_node-requires-clause-enough
open_node-requires-clause-enough c =
    let plan = c.args.plan.now in
    let left = c.loop-number.invariant.left in
    let all = count_on plan c.args.shards c.loop-number.number plan.config.n (omega (arith, c.loop-number-test.true, c.n-number-end.ensures.is)) in
    omega (arith, left, all, c.requires.enough)

pub loop-number-preserved : goal.loop-number-preserved
loop-number-preserved c =
    let inv = c.loop-number.invariant in
    let told = c.in_ok-open_node.ensures in
    let more = count_next c.args.plan.now c.args.shards c.loop-number.number in
    record {
      cells = told.cells;
      unused = told.unused;
      left = omega (arith, told.left, inv.left, more);
    }
