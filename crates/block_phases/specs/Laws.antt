-- What holds of each operation that is carried out phase by phase.
use Rattle.std.specs.Prelude.{ℕ, Bool, List, Option}
use Rattle.protocol.specs.Messages.{Reply}
use Rattle.protocol.specs.Setting.{Setting}
use Rattle.protocol.specs.Operations.{Work, Outcome}
use Rattle.protocol.specs.Seen.{SeenTask, seen_begun}
use Rattle.block_phases.specs.Phases.{Keeps, Progress, after_phase, AreAnswers, IsAfterPhase, IsCutOff}
use Rattle.block_phases.specs.Phases.Progress.{UnderWay, Over}
use Rattle.block_phases.specs.Executions.{StampedValue, value_stored, OnlyPresentAnswer, IsRunning, IsCompleted, IsGivenUp}

module _ (s : Setting) where
  -- an operation may begin at any time
  abbrev pub OperationsBegin : Type 0
  OperationsBegin =
      (away : ℕ → Bool) (block client op : ℕ) (work : Work) (old : Keeps)
      → IsRunning s away block client work (seen_begun s op block work) old old

  -- after a phase it is running or completed, as the answers decide
  abbrev pub ContinuesAs : (ℕ → Bool) → ℕ → ℕ → Work → Progress → Keeps → Keeps → Type 0
  ContinuesAs away block client work (UnderWay task) old then = IsRunning s away block client work task old then
  ContinuesAs away block client work (Over outcome) old then = IsCompleted s away block client work outcome old then

  abbrev pub OperationsGoOn : Type 0
  OperationsGoOn =
      (away : ℕ → Bool) (block client : ℕ) (work : Work) (task : SeenTask) (replies : List (Option Reply)) (old now then : Keeps)
      → IsRunning s away block client work task old now
      → AreAnswers s task now replies
      → OnlyPresentAnswer away replies
      → IsAfterPhase s task now replies then
      → ContinuesAs away block client work (after_phase s client task replies) old then

  -- it may be given up at any moment of a phase
  abbrev pub OperationsAreCutOff : Type 0
  OperationsAreCutOff =
      (away : ℕ → Bool) (block client : ℕ) (work : Work) (task : SeenTask) (old now then : Keeps)
      → IsRunning s away block client work task old now
      → IsCutOff s task now then
      → IsGivenUp s away block client work (value_stored task.stage) old then

  -- which nodes and clients are declared lying doesn't matter to an operation
  abbrev pub OutcomesKnowNoLiars : Type 0
  OutcomesKnowNoLiars =
      (lying_node lying_client away : ℕ → Bool) (block client : ℕ) (work : Work) (outcome : Outcome) (old new : Keeps)
      → IsCompleted s away block client work outcome old new
      → IsCompleted (record s { lying_node = lying_node; lying_client = lying_client }) away block client work outcome old new

  abbrev pub CutOffsKnowNoLiars : Type 0
  CutOffsKnowNoLiars =
      (lying_node lying_client away : ℕ → Bool) (block client : ℕ) (work : Work) (stored : Option StampedValue) (old new : Keeps)
      → IsGivenUp s away block client work stored old new
      → IsGivenUp (record s { lying_node = lying_node; lying_client = lying_client }) away block client work stored old new
