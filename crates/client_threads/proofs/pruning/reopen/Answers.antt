use Rattle.std.proofs.Common.{true, ◌++◌, ◌∷◌, [], All, sym, subst}
use Rattle.std.specs.Vec.Iter.{into_iter_items, into_iter_len}
use Rattle.std.proofs.lemmas.List.Elements.{All-push}
use Rattle.locked_nodes.specs.Cells.{CellView, KeptCell, rechartered}
use Rattle.thread_work.proofs.lemmas.Places.{walk_on}
use Rattle.client_threads.proofs.Walking.{made_more}
use Rattle.client_threads.proofs.pruning.reopen.Goals as goal

pub loop-cell-preserved : goal.loop-cell-preserved
loop-cell-preserved c =
    let inv = c.loop-cell.invariant in
    let steps = c.in-Some.ensures.steps in
    let x = c.in-Some.cell in
    let was = c.loop-cell.opened.items in
    let new = c.go_on-cell.result in
    let pushed = c.in_ok-push.ensures.items in (
      inv.0 ++ x ∷ [],
      walk_on c.args.cells.items inv.0 (into_iter_items c.loop-cell.cell-iterator) (into_iter_items c.next.new.self) x (into_iter_len c.loop-cell.cell-iterator) (into_iter_len c.next.new.self) inv.1 steps.0 steps.1,
      made_more (λ (y : CellView). rechartered y true) [] was c.push.new.self.items inv.0 x new pushed inv.2 c.go_on-cell.ensures,
      subst (All KeptCell) (sym pushed) (All-push KeptCell was new inv.3 c.known.ensures),
    )
