use Rattle.std.proofs.Common.{◌≡◌, ◌≤◌, ◌+◌, List, All, vec_len, vec_capacity}
use Rattle.std.specs.Vec.Iter.{into_iter_items, into_iter_len}
use Rattle.thread_work.specs.Pairwise.{Beside}
use Rattle.thread_work.specs.Starts.{IsBegun, lock_of}
use Rattle.thread_work.proofs.lemmas.Places.{Walked}
use Rattle.thread_work.proofs.at_once.begin_all.Given as goal

-- the thread states so far have begun, and there is room for the rest
abbrev pub invariant-loop-state : goal.invariant-loop-state
invariant-loop-state g l =
    (done : List g.row.P.Denot) × Walked l.fn.states.items done (into_iter_items l.state-iterator) (into_iter_len l.state-iterator)
    × Beside (λ i p b. IsBegun g.C.ThreadWork.works l.fn.call.work.now p b) done l.begun.items
    × All (λ b. lock_of b ≡ l.fn.call.word.now.id) l.begun.items
    × (vec_len l.begun + into_iter_len l.state-iterator ≤ vec_capacity l.begun)
