use Rattle.std.proofs.Common.{◌+◌, arith}
use Rattle.client_threads.proofs.Newcomers.{count_next, count_few}
use Rattle.client_threads.proofs.opening.count_cells.Goals as goal

pub overflow_add-count : goal.overflow_add-count
overflow_add-count c =
    let plan = c.args.plan.now in
    let n = c.loop-node.node in
    let shards = c.args.shards in
    let few = count_few plan shards (n + 1) c.requires.shards.0 c.requires.shards.1 in
    let next = count_next plan shards n in
    let most = c.requires.fits.valid.nodes.1 in
    omega (arith, few, next, most, c.loop-node.invariant, c.shard_count-count.ensures, c.loop-node-test.true, c.n-node-end.ensures.is)
