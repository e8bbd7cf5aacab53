use Rattle.std.proofs.Common.{◌≤◌, ◌+◌, List, vec_len, vec_capacity}
use Rattle.std.specs.Vec.Iter.{into_iter_items, into_iter_len}
use Rattle.thread_work.specs.declared.at_once.Begun.{Begun}
use Rattle.thread_work.specs.Pairwise.{Beside}
use Rattle.thread_work.specs.Starts.{IsBegun, GoesBy}
use Rattle.thread_work.proofs.lemmas.Places.{Walked}
use Rattle.thread_work.proofs.at_once.finish_all.Given as goal

-- the thread states so far have ended, and there is room for the rest
abbrev pub invariant-loop-one : goal.invariant-loop-one
invariant-loop-one g l =
    (done : List (Begun g.row.P.Denot g.row.C.Denot)) × Walked l.fn.begun.items done (into_iter_items l.one-iterator) (into_iter_len l.one-iterator)
    × Beside (λ i b q. (p : g.row.P.Denot) → IsBegun g.C.ThreadWork.works l.fn.call.work.now p b → GoesBy (g.C.ThreadWork.works l.fn.call.work.now) l.fn.word.value p q) done l.ended.items
    × (vec_len l.ended + into_iter_len l.one-iterator ≤ vec_capacity l.ended)
