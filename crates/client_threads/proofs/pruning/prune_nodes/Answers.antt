use Rattle.std.proofs.Common.{◌∙◌, sym, subst, List, arith}
use Rattle.locked_nodes.specs.declared.cell_shard.CellShard.{CellShard}
use Rattle.client_threads.specs.Pruned.{HasMorePrunes, IsServed}
use Rattle.client_threads.proofs.Places.{served, none_pruned, one_pruned, all_prune}
use Rattle.client_threads.proofs.Prunes.{none_more, more_then, shards_same}
use Rattle.client_threads.proofs.Working.{zip_then}
use Rattle.client_threads.proofs.pruning.prune_nodes.Goals as goal

pub returns-in_err-cell_shards-clause-some : goal.returns-in_err-cell_shards-clause-some
returns-in_err-cell_shards-clause-some c = none_more c.args.cells.now

pub loop-node-init : goal.loop-node-init
loop-node-init c = none_pruned c.args.plan.now c.args.clock.now c.args.keeper.now c.args.prunings.now c.args.cells.now c.requires.cells

pub prune-requires-clause-cell_shards : goal.prune-requires-clause-cell_shards
prune-requires-clause-cell_shards c = c.as_slice.ensures.value ∙ c.in_ok-cell_shards.ensures ∙ sym (shards_same c.args.cells.now c.loop-node.cells c.loop-node.invariant.some)

pub prune-requires-clause-served : goal.prune-requires-clause-served
prune-requires-clause-served c =
    subst (λ (l : List CellShard). IsServed l c.loop-node.node) (sym (c.as_slice.ensures.value ∙ c.in_ok-cell_shards.ensures))
    (served c.args.plan.now c.args.clock.now c.args.cells.now c.requires.planned c.loop-node.node (omega (arith, c.loop-node-test.true, c.n-node-end.ensures.is)))

pub returns-in_err-prune-clause-some : goal.returns-in_err-prune-clause-some
returns-in_err-prune-clause-some c =
    zip_then HasMorePrunes HasMorePrunes HasMorePrunes c.args.cells.now c.loop-node.cells c.prune.new.cells more_then c.loop-node.invariant.some c.prune.ensures.some

pub loop-node-preserved : goal.loop-node-preserved
loop-node-preserved c =
    let plan = c.args.plan.now in
    let clock = c.args.clock.now in
    let old = c.args.cells.now in
    let now = c.loop-node.cells in
    let told = c.in_ok-prune.ensures in
    one_pruned plan clock c.args.keeper.now c.loop-node.keeper c.prune.new.keeper c.args.prunings.now c.loop-node.node old now c.prune.new.cells c.loop-node.invariant told.keeper told.cells told.some
    (all_prune c.phases_work.ensures.may plan clock c.loop-node.node old now c.requires.planned c.requires.known c.loop-node.invariant.some) told.all told.others
