use Rattle.std.proofs.Common.{◌≡◌, ◌+◌, List, length, map, All}
use Rattle.std.specs.Vec.Iter.{into_iter_items, into_iter_len}
use Rattle.client_duties.specs.declared.task.Task.{Task}
use Rattle.client_duties.specs.Tasks.{client_of}
use Rattle.client_threads.specs.Opened.{IsUnusedPass, IsNewSeat}
use Rattle.thread_work.proofs.lemmas.Places.{Walked}
use Rattle.client_threads.proofs.opening.open_seats.Given as goal

-- the tasks so far have their seats
abbrev pub invariant-loop-task : goal.invariant-loop-task
invariant-loop-task l =
    (done : List Task) × Walked l.fn.tasks done (into_iter_items l.task-iterator) (into_iter_len l.task-iterator)
    × All (IsNewSeat l.plan l.clock) l.seats.items
    × (map (λ s. s.desk.id) l.seats.items ≡ map client_of done)
    × All (IsUnusedPass l.clock) l.passes
    × (length l.passes + length done ≡ length l.fn.passes)
