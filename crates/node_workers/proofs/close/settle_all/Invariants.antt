use Rattle.std.proofs.Common.{◌≡◌, List, All}
use Rattle.std.specs.Vec.Iter.{into_iter_items, into_iter_len}
use Rattle.thread_work.specs.Pairwise.{Beside}
use Rattle.thread_work.proofs.lemmas.Places.{Walked}
use Rattle.node_workers.specs.Workers.{AnswerPutter}
use Rattle.node_workers.specs.Closed.{HasAllOf}
use Rattle.node_workers.proofs.close.settle_all.Given as goal

abbrev pub invariant-loop-row : goal.invariant-loop-row
invariant-loop-row l =
    (done : List (List AnswerPutter)) × Walked l.fn.rows.items done (into_iter_items l.row-iterator) (into_iter_len l.row-iterator)
    × (l.mails.items ≡ l.initial.mails.items)
    × All (Beside HasAllOf l.initial.mails.items) done
