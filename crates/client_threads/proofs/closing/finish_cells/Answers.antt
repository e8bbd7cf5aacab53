use Rattle.std.proofs.Common.{◌<◌, ◌++◌, ◌∷◌, [], List, length, map, sym, ap, subst, ◌∙◌, All, append-nil, arith}
use Rattle.std.specs.Vec.Iter.{into_iter_items, into_iter_len}
use Rattle.std.proofs.lemmas.List.Elements.{All-nil, All-push}
use Rattle.locked_nodes.specs.Cells.{CellView, KeptCell}
use Rattle.client_threads.specs.Running.{node_journals}
use Rattle.client_threads.proofs.Adding.{none_joined, one_added, journals_long}
use Rattle.thread_work.proofs.lemmas.Places.{walk_on, walk_end}
use Rattle.client_threads.proofs.Walking.{all_mid, made_more}
use Rattle.client_threads.proofs.closing.finish_cells.Goals as goal

pub loop-cell-init : goal.loop-cell-init
loop-cell-init c =
    let gives = c.into_iter-cell-iterator.ensures.into_iter_gives in (
      [],
      (sym gives.0, gives.1 ∙ c.args.cells.ok.0 ∙ ap length (sym gives.0)),
      c.in_ok-nodes.ensures ∙ sym (none_joined c.args.count),
      sym (append-nil c.args.passes.now),
      All-nil KeptCell,
    )

pub add_journal-requires : goal.add_journal-requires
add_journal-requires c =
    let inv = c.loop-cell.invariant in
    let cell = c.in-Some.cell in
    let all = inv.1.0 ∙ ap (λ (l : List CellView). inv.0 ++ l) c.in-Some.ensures.steps.0 in
    let below = all_mid (λ (x : CellView). x.charter.number < c.args.count) inv.0 (into_iter_items c.next.new.self) cell (subst (All (λ (x : CellView). x.charter.number < c.args.count)) all c.requires) in
    let long = ap length inv.2 ∙ journals_long inv.0 c.args.count in
    omega (arith, below, long, c.number.ensures, c.from-node.ensures)

pub loop-cell-preserved : goal.loop-cell-preserved
loop-cell-preserved c =
    let inv = c.loop-cell.invariant in
    let steps = c.in-Some.ensures.steps in
    let cell = c.in-Some.cell in (
      inv.0 ++ cell ∷ [],
      walk_on c.args.cells.items inv.0 (into_iter_items c.loop-cell.cell-iterator) (into_iter_items c.next.new.self) cell (into_iter_len c.loop-cell.cell-iterator) (into_iter_len c.next.new.self) inv.1 steps.0 steps.1,
      one_added inv.0 cell c.args.count c.from-node.result c.loop-cell.nodes c.add_journal.new.nodes c.finish-journal.result.0 inv.2 (c.from-node.ensures ∙ c.number.ensures) c.finish-journal.ensures.journal c.in_ok-add_journal.ensures,
      made_more (λ (x : CellView). x.pass) c.args.passes.now c.loop-cell.passes c.push.new.self inv.0 cell c.finish-journal.result.1 c.in_ok-push.ensures.ok inv.3 c.finish-journal.ensures.pass,
      All-push KeptCell inv.0 cell inv.4 c.finish-journal.ensures.kept,
    )

pub returns-clause-nodes : goal.returns-clause-nodes
returns-clause-nodes c =
    let inv = c.loop-cell.invariant in
    let all = walk_end c.args.cells.items inv.0 (into_iter_items c.loop-cell.cell-iterator) (into_iter_len c.loop-cell.cell-iterator) inv.1 c.in-None.ensures.steps.0 in
    inv.2 ∙ ap (λ (l : List CellView). node_journals l c.args.count) (sym all)

pub returns-clause-passes : goal.returns-clause-passes
returns-clause-passes c =
    let inv = c.loop-cell.invariant in
    let all = walk_end c.args.cells.items inv.0 (into_iter_items c.loop-cell.cell-iterator) (into_iter_len c.loop-cell.cell-iterator) inv.1 c.in-None.ensures.steps.0 in
    inv.3 ∙ ap (λ (l : List CellView). c.args.passes.now ++ map (λ (x : CellView). x.pass) l) (sym all)

pub returns-clause-kept : goal.returns-clause-kept
returns-clause-kept c =
    let inv = c.loop-cell.invariant in
    let all = walk_end c.args.cells.items inv.0 (into_iter_items c.loop-cell.cell-iterator) (into_iter_len c.loop-cell.cell-iterator) inv.1 c.in-None.ensures.steps.0 in
    subst (All KeptCell) (sym all) inv.4
