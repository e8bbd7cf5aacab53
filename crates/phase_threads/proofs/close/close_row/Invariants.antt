use Rattle.std.proofs.Common.{List, length}
use Rattle.std.specs.Vec.Iter.{into_iter_items, into_iter_len}
use Rattle.receipt_lock.specs.Chits.{Deposit}
use Rattle.locked_nodes.specs.declared.charter.Item.{Item}
use Rattle.thread_work.specs.Pairwise.{Beside}
use Rattle.phase_threads.specs.Phased.{IsClosed}
use Rattle.thread_work.proofs.lemmas.Places.{Walked}
use Rattle.phase_threads.proofs.Closing.{AreWithout}
use Rattle.phase_threads.proofs.close.close_row.Given as goal

-- the vaults so far are closed, with the last chits of the portions
abbrev pub invariant-loop-vault : goal.invariant-loop-vault
invariant-loop-vault l =
    (done : List (Deposit Item)) × Walked l.fn.vaults.items done (into_iter_items l.vault-iterator) (into_iter_len l.vault-iterator)
    × Beside (IsClosed l.fn.portions.items) done l.cells.items
    × AreWithout (length done) l.fn.portions.items l.portions.items
