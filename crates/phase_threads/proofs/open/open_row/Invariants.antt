use Rattle.std.proofs.Common.{◌≡◌, List, length, All}
use Rattle.std.specs.Vec.Iter.{into_iter_items, into_iter_len}
use Rattle.locked_nodes.specs.Cells.{CellView}
use Rattle.thread_work.specs.Pairwise.{Beside}
use Rattle.phase_threads.specs.Phased.{IsVaultOf, new_portion}
use Rattle.thread_work.proofs.lemmas.Places.{Walked}
use Rattle.phase_threads.proofs.open.open_row.Given as goal

-- the cells so far have vaults, and each portion has a chit for each
abbrev pub invariant-loop-cell : goal.invariant-loop-cell
invariant-loop-cell l =
    (done : List CellView) × Walked l.fn.cells.items done (into_iter_items l.cell-iterator) (into_iter_len l.cell-iterator)
    × Beside (IsVaultOf l.count) done l.vaults.items
    × (length l.portions.items ≡ l.count)
    × All (λ h. h ≡ new_portion l.vaults.items) l.portions.items
