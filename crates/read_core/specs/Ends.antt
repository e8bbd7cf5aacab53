-- What a phase comes to.
use Rattle.std.specs.Prelude.{◌≡◌, ℕ, List, Option}
use Rattle.quorum_rules.specs.Limits.{Numbers}
use Rattle.wire_forms.specs.declared.message.Reply.{Reply}
use Rattle.run_words.specs.declared.outcome.Outcome.TheVariants.{Gave, Outvoted as OutvotedBy}
use Rattle.protocol.specs.Instance.{setting}
use Rattle.protocol.specs.Operations.{Task, Decision, decide, Stage as ModelStage}
use Rattle.protocol.specs.Operations.Work.{Reads}
use Rattle.protocol.specs.Operations.Stage.{Times, Versions}
use Rattle.protocol.specs.Operations.Decision.{Ends, GoesOn as GoesOnBy}
use Rattle.operation_core.specs.declared.stage.Stage.{Stage}
use Rattle.operation_core.specs.Stages.{stage_of, FitsStage}
use Rattle.operation_core.specs.Counting.{answer_at}
use Rattle.read_core.specs.declared.read_end.ReadEnd.{ReadEnd}
use Rattle.read_core.specs.declared.read_end.ReadEnd.TheVariants.{Outvoted, Gives, GoesOn}
use Rattle.read_core.specs.declared.round.Round.{Round}

-- the decision that it is, in a read of so many rounds
abbrev pub decision_of : ℕ → ReadEnd → Decision
decision_of rounds (Outvoted nodes) = Ends (OutvotedBy nodes)
decision_of rounds (Gives stamp value how) = Ends (Gave stamp value how rounds)
decision_of rounds (GoesOn stage) = GoesOnBy (stage_of stage)

-- a read asks for no times
abbrev pub IsReadStage : ModelStage → Type 0
IsReadStage Times = ⊥
IsReadStage _ = Unit {0}

-- a next stage is one of a read, and what it stores is encoded
pub record IsNext (c : Numbers) (stage : Stage) : Type 0 where
  pub fits : FitsStage c stage
  pub reads : IsReadStage (stage_of stage)

abbrev pub IsNextIn : Numbers → ReadEnd → Type 0
IsNextIn c (GoesOn stage) = IsNext c stage
IsNextIn c _ = Unit {0}

-- it is what each read in this stage, with these answers, decides
pub record IsEnd (c : Numbers) (stage : ModelStage) (answers : List (Option Reply)) (end : ReadEnd) : Type 0 where
  pub decides : (client : ℕ) (task : Task) → task.work ≡ Reads → task.answers ≡ answer_at answers → decision_of task.rounds end ≡ decide (setting c) client task stage
  pub next : IsNextIn c end

-- it is what the round comes to
abbrev pub IsEndOf : Round → ReadEnd → Type 0
IsEndOf r end = IsEnd r.config.now (Versions r.bound) r.answers.now end
