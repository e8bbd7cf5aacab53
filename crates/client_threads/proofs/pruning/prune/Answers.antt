use Rattle.std.proofs.Common.{take, set, get_or, sym, ◌∙◌, subst, List, arith}
use Rattle.std.proofs.lemmas.List.{take_more}
use Rattle.locked_nodes.specs.Cells.{CellView}
use Rattle.plan_followed.specs.declared.prunes.BlockStamp.{BlockStamp}
use Rattle.client_threads.proofs.Places.{found}
use Rattle.client_threads.proofs.Prunes.{IsPruning, none_more, prunes_none, prune_step, none_named}
use Rattle.client_threads.proofs.pruning.prune.Goals as goal

pub returns-in_err-places-clause-some : goal.returns-in_err-places-clause-some
returns-in_err-places-clause-some c = none_more c.args.cells.now

pub loop-pruning-init : goal.loop-pruning-init
loop-pruning-init c = prunes_none c.args.clock.now c.args.keeper.now c.args.prunings.now c.args.node c.args.cells.now c.requires.cells

pub bounds-cells-place : goal.bounds-cells-place
bounds-cells-place c =
    let block = (get_or c.args.prunings.now c.loop-pruning.pruning-index none_named).block in
    (found c.args.cells.now c.loop-pruning.cells c.args.cell_shards.now c.args.node block c.index-place.result.now c.in_ok-places.places.items c.len.result c.requires.cell_shards c.loop-pruning.invariant.some c.in_ok-places.ensures (c.len.ensures ∙ c.in_ok-places.places.ok.0) c.index-place.ensures).within

pub prune-requires-clause-block : goal.prune-requires-clause-block
prune-requires-clause-block c =
    let i = c.loop-pruning.pruning-index in
    let cells = c.loop-pruning.cells in
    let place = c.index-place.result.now in
    let d : CellView = c.index-cells-place.result in
    let block = (get_or c.args.prunings.now i none_named).block in
    let at = found c.args.cells.now cells c.args.cell_shards.now c.args.node block place c.in_ok-places.places.items c.len.result c.requires.cell_shards c.loop-pruning.invariant.some c.in_ok-places.ensures (c.len.ensures ∙ c.in_ok-places.places.ok.0) c.index-place.ensures in
    ((c.loop-pruning.invariant.cells place d at.within).blocks i none_named c.loop-pruning-test.true, at.share d)

pub prune-requires-clause-may : goal.prune-requires-clause-may
prune-requires-clause-may c =
    let cells = c.loop-pruning.cells in
    let place = c.index-place.result.now in
    let block = (get_or c.args.prunings.now c.loop-pruning.pruning-index none_named).block in
    let at = found c.args.cells.now cells c.args.cell_shards.now c.args.node block place c.in_ok-places.places.items c.len.result c.requires.cell_shards c.loop-pruning.invariant.some c.in_ok-places.ensures (c.len.ensures ∙ c.in_ok-places.places.ok.0) c.index-place.ensures in
    (c.loop-pruning.invariant.cells place c.index-cells-place.result at.within).may

pub prune-requires-clause-clock : goal.prune-requires-clause-clock
prune-requires-clause-clock c =
    let cells = c.loop-pruning.cells in
    let place = c.index-place.result.now in
    let block = (get_or c.args.prunings.now c.loop-pruning.pruning-index none_named).block in
    let at = found c.args.cells.now cells c.args.cell_shards.now c.args.node block place c.in_ok-places.places.items c.len.result c.requires.cell_shards c.loop-pruning.invariant.some c.in_ok-places.ensures (c.len.ensures ∙ c.in_ok-places.places.ok.0) c.index-place.ensures in
    (c.loop-pruning.invariant.cells place c.index-cells-place.result at.within).ticks

pub loop-pruning-preserved : goal.loop-pruning-preserved
loop-pruning-preserved c =
    let i = c.loop-pruning.pruning-index in
    let ps = c.args.prunings.now in
    let old = c.args.cells.now in
    let cells = c.loop-pruning.cells in
    let place = c.index-place.result.now in
    let x : BlockStamp = get_or ps i none_named in
    let first = c.args.keeper.now in
    let keeper = c.loop-pruning.keeper in
    let next = c.prune.new.caller in
    let new = c.prune.new.self in
    let told = c.in_ok-_pruning.ensures in
    let at = found old cells c.args.cell_shards.now c.args.node x.block place c.in_ok-places.places.items c.len.result c.requires.cell_shards c.loop-pruning.invariant.some c.in_ok-places.ensures (c.len.ensures ∙ c.in_ok-places.places.ok.0) c.index-place.ensures in
    let d : CellView = c.index-cells-place.result in
    let step = prune_step c.args.clock.now first keeper ps c.args.node (take i ps) x old cells place (get_or cells place d) (at.there d) (at.number d) c.loop-pruning.invariant next new c.in_ok-_pruning._pruning
    (λ n is. told.pruned n (cc)) (λ may. let said = told.skipped.1 may in cc) (λ is. told.skipped.0 (cc)) (λ is. told.same (cc)) in
    subst (λ (l : List BlockStamp). IsPruning c.args.clock.now first next ps c.args.node l old (set cells place new)) (sym (take_more ps i none_named c.loop-pruning-test.true)) step

pub offset_bounds-cells-place : goal.offset_bounds-cells-place
offset_bounds-cells-place c =
    let block = (get_or c.args.prunings.now c.loop-pruning.pruning-index none_named).block in
    let at = found c.args.cells.now c.loop-pruning.cells c.args.cell_shards.now c.args.node block c.index-place.result.now c.in_ok-places.places.items c.len.result c.requires.cell_shards c.loop-pruning.invariant.some c.in_ok-places.ensures (c.len.ensures ∙ c.in_ok-places.places.ok.0) c.index-place.ensures in
    let within = at.within in
    let long = c.loop-pruning.auto.cells in
    omega arith
