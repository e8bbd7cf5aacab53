use Rattle.std.proofs.Common.{◌≡◌, All, List, sym, ◌∙◌, ap, subst, arith}
use Rattle.std.specs.Vec.{with_items}
use Rattle.std.proofs.lemmas.List.{with_items_is}
use Rattle.locked_nodes.specs.Cells.{CellView}
use Rattle.phase_threads.specs.Standing.{ArePlanned, node_journal, prunes_at}
use Rattle.client_threads.specs.Pruned.{IsOpenCell, HasMorePrunes, reopened, prunings_of}
use Rattle.client_threads.proofs.Places.{reopened_planned, reopened_open, reopened_journal, reopened_prunes, done_as, unrefused}
use Rattle.client_threads.proofs.Working.{zip_long}
use Rattle.client_threads.proofs.pruning.prune_all.Goals as goal

pub prune_nodes-requires-clause-planned : goal.prune_nodes-requires-clause-planned
prune_nodes-requires-clause-planned c =
    subst (ArePlanned c.args.plan.now c.args.clock.now) (sym (c.as_mut_slice.ensures.value ∙ c.in_ok-cells.ensures.cells)) (reopened_planned c.args.plan.now c.args.clock.now c.args.cells.items c.requires.known c.requires.planned)

pub prune_nodes-requires-clause-cells : goal.prune_nodes-requires-clause-cells
prune_nodes-requires-clause-cells c =
    let bound = c.args.keeper.now.seen in
    let ps = c.args.prunings.now in
    subst (All (IsOpenCell c.args.clock.now bound ps)) (sym (c.as_mut_slice.ensures.value ∙ c.in_ok-cells.ensures.cells))
    (reopened_open c.args.plan.now c.args.clock.now bound ps c.args.cells.items c.requires.planned c.requires.known c.requires.seen c.requires.blocks)

pub returns-clause-all : goal.returns-clause-all
returns-clause-all c none i l =
    let old = c.args.cells.items in
    let given = c.as_mut_slice.result.now in
    let new = c.prune_nodes.new.cells in
    let plan = c.args.plan.now in
    let was : given ≡ reopened old = c.as_mut_slice.ensures.value ∙ c.in_ok-cells.ensures.cells in
    let is : (with_items c.in_ok-cells.cells new).items ≡ new = with_items_is c.in_ok-cells.cells new (zip_long HasMorePrunes given new c.prune_nodes.ensures.some ∙ c.as_mut_slice.ensures.len) in
    done_as c.args.keeper.now.seen c.args.keeper.now.seen (prunings_of c.args.prunings.now) (prunes_at plan given i) (prunes_at plan old i) (node_journal given i) (node_journal old i) (node_journal new i) (node_journal (with_items c.in_ok-cells.cells new).items i) (omega arith)
    (sym (ap (λ (cells : List CellView). prunes_at plan cells i) was ∙ reopened_prunes plan old i)) (sym (ap (λ (cells : List CellView). node_journal cells i) was ∙ reopened_journal old i)) (ap (λ (cells : List CellView). node_journal cells i) is)
    (unrefused c.prune_nodes.result c.prune_nodes.ensures.all (sym c.err-refused.ensures.value ∙ none) i l)
