-- How an operation on a block is carried out, phase by phase: what it asks, what nodes answer, and what each node
-- keeps then.
use Rattle.std.specs.Prelude.{◌≡◌, ℕ, ◌<◌, Bool, false, List, [], ◌∷◌, Option, slice_get}
use Rattle.std.specs.declared.option.Option.TheVariants.{None, Some}
use Rattle.protocol.specs.Messages.{Reply}
use Rattle.protocol.specs.Setting.{Setting}
use Rattle.stamp_order.specs.declared.Stamp.{Stamp}
use Rattle.protocol.specs.Operations.{Work, Stage, Outcome}
use Rattle.protocol.specs.Operations.Stage.{Times, Versions, Storing}
use Rattle.protocol.specs.Seen.{SeenTask, seen_begun}
use Rattle.block_phases.specs.Phases.{Keeps, after_phase, AreAnswers, IsAfterPhase, IsCutOff}
use Rattle.block_phases.specs.Phases.Progress.{UnderWay, Over}

-- a value and its timestamp
pub record StampedValue : Type 0 where
  pub stamp : Stamp
  pub value : List ℕ

-- what a phase asks nodes to store, if it stores
abbrev pub value_stored : Stage → Option StampedValue
value_stored Times = None
value_stored (Versions bound) = None
value_stored (Storing stamp value) = Some (record { stamp = stamp; value = value })

-- a phase that is over: its task, what each node kept before it, and the answers that the client heard
pub record Phase : Type 0 where
  pub task : SeenTask
  pub now : Keeps
  pub replies : List (Option Reply)

-- nodes that are away answer nothing
abbrev pub OnlyPresentAnswer : (ℕ → Bool) → List (Option Reply) → Type 0
OnlyPresentAnswer away replies = (i : ℕ) (given : Reply) → slice_get replies i ≡ Some (Some given) → away i ≡ false

-- an operation while these nodes are away
module _ (s : Setting) (away : ℕ → Bool) (block client : ℕ) (work : Work) where
  -- These phases, the latest first, lead from the beginning of the operation to this task. Nodes kept `old` at first,
  -- and keep `now`.
  abbrev pub LeadTo : ℕ → Keeps → List Phase → SeenTask → Keeps → Type 0
  LeadTo op old [] task now = (task ≡ seen_begun s op block work) × ((i : ℕ) → i < s.n → now i ≡ old i)
  LeadTo op old (p ∷ phases) task now =
      LeadTo op old phases p.task p.now × AreAnswers s p.task p.now p.replies × OnlyPresentAnswer away p.replies
      × IsAfterPhase s p.task p.now p.replies now × (after_phase s client p.task p.replies ≡ UnderWay task)

  -- the operation began when nodes kept `old`; now it is at this task, and nodes keep `now`
  pub record IsRunning (task : SeenTask) (old now : Keeps) : Type 0 where
    pub op : ℕ
    pub phases : List Phase
    pub led : LeadTo op old phases task now

  -- the operation began when nodes kept `old`, and has come to this outcome; nodes keep `new`
  pub record IsCompleted (outcome : Outcome) (old new : Keeps) : Type 0 where
    pub task : SeenTask
    pub now : Keeps
    pub goes : IsRunning task old now
    pub replies : List (Option Reply)
    pub answers : AreAnswers s task now replies
    pub there : OnlyPresentAnswer away replies
    pub after : IsAfterPhase s task now replies new
    pub over : after_phase s client task replies ≡ Over outcome

  -- The operation began when nodes kept `old`, and was given up in a phase that stores this, or nothing. Each node
  -- did what that phase asked, or didn't; nodes keep `new`.
  pub record IsGivenUp (stored : Option StampedValue) (old new : Keeps) : Type 0 where
    pub task : SeenTask
    pub asked : value_stored task.stage ≡ stored
    pub now : Keeps
    pub goes : IsRunning task old now
    pub cut : IsCutOff s task now new
