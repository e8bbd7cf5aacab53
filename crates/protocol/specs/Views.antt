-- How a client's view moves when it hears an answer, and the world with it.
use Rattle.std.specs.Prelude.{◌≡◌, ℕ, [], length, Option}
use Rattle.std.specs.declared.option.Option.TheVariants.{None, Some}
use Rattle.protocol.specs.Setting.{Setting}
use Rattle.protocol.specs.Operations.{mail}
use Rattle.protocol.specs.World.{World, moved, only_place, open_record, closed_record}
use Rattle.protocol.specs.Seen.{SeenTask, Hearing, task_at}
use Rattle.protocol.specs.Seen.Hearing.{Ignored, Counted, Begins, Ended}

-- an operation has one answer or none for each of n nodes
abbrev pub IsFull : ℕ → Option SeenTask → Type 0
IsFull n None = Unit {0}
IsFull n (Some t) = length t.answers ≡ n

-- the operation after what an answer does to it
abbrev pub task_after : SeenTask → Hearing → Option SeenTask
task_after t Ignored = Some t
task_after t (Counted u) = Some u
task_after t (Begins u) = Some u
task_after t (Ended outcome) = None

module _ (s : Setting) (w : World) (place c start : ℕ) where
  -- the world after what an answer does to client c's operation, which began at the place start
  abbrev pub after_hearing : SeenTask → Hearing → World
  after_hearing t Ignored = only_place s w place
  after_hearing t (Counted u) = moved s w place c (Some (task_at start u)) [] (open_record c (task_at start u))
  after_hearing t (Begins u) = moved s w place c (Some (task_at start u)) (mail s c (task_at start u)) (open_record c (task_at start u))
  after_hearing t (Ended outcome) = moved s w place c None [] (closed_record c (task_at start t) place outcome)
