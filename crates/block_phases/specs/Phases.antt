-- A phase of an operation: each node is handed what it asks, or isn't, and then the client hears the answers, node by
-- node.
use Rattle.std.specs.Prelude.{◌≡◌, ◌⊎◌, ℕ, suc, ◌<◌, List, [], ◌∷◌, length, Option, slice_get}
use Rattle.std.specs.declared.option.Option.TheVariants.{None, Some}
use Rattle.protocol.specs.Messages.{Ask, Reply, Tag, Version, IsFormedReply}
use Rattle.protocol.specs.Setting.{Setting}
use Rattle.protocol.specs.Nodes.{reply, after}
use Rattle.protocol.specs.Operations.{Outcome, ask_of}
use Rattle.protocol.specs.Seen.{SeenTask, Hearing, task_at, hearing}
use Rattle.protocol.specs.Seen.Hearing.{Ignored, Counted, Begins, Ended}

-- the versions that each node keeps of the block
abbrev pub Keeps : Type 0
Keeps = ℕ → List Version

-- an operation that is under way, or over
pub data Progress : Type 0 where
  UnderWay : SeenTask → Progress
  Over : Outcome → Progress

-- the tag of the answers to a task's present phase
abbrev pub tag_of : SeenTask → Tag
tag_of task = record { op = task.op; phase = task.phase }

module _ (s : Setting) where
  -- what the present phase asks of a node
  abbrev pub ask_to : SeenTask → ℕ → Ask
  ask_to task i = ask_of s (task_at 0 task) i

  -- what hearing an answer makes of a task
  abbrev pub progress : SeenTask → Hearing → Progress
  progress task Ignored = UnderWay task
  progress task (Counted next) = UnderWay next
  progress task (Begins next) = UnderWay next
  progress task (Ended outcome) = Over outcome

  module _ (client : ℕ) (tag : Tag) where
    -- an answer of a node, or none, is heard where the operation is still under way
    abbrev pub heard : Progress → ℕ → Option Reply → Progress
    heard (UnderWay task) i (Some given) = progress task (hearing s client task i tag given)
    heard (UnderWay task) i None = UnderWay task
    heard (Over outcome) i given = Over outcome

    -- the answers of the nodes from this one on are heard, in the order of nodes
    abbrev pub heard_from : Progress → ℕ → List (Option Reply) → Progress
    heard_from p i [] = p
    heard_from p i (given ∷ replies) = heard_from (heard p i given) (suc i) replies

  -- what a phase comes to when these answers to it are heard
  abbrev pub after_phase : ℕ → SeenTask → List (Option Reply) → Progress
  after_phase client task replies = heard_from client (tag_of task) (UnderWay task) 0 replies

  -- each answer is formed, and what the node answers to the phase's ask
  pub record AreAnswers (task : SeenTask) (now : Keeps) (replies : List (Option Reply)) : Type 0 where
    pub count : length replies ≡ s.n
    pub formed : (i : ℕ) (given : Reply) → slice_get replies i ≡ Some (Some given) → IsFormedReply given
    pub answers : (i : ℕ) (given : Reply) → slice_get replies i ≡ Some (Some given) → given ≡ reply s i (now i) (ask_to task i)

  -- the node has done what was asked
  abbrev pub HasDone : SeenTask → ℕ → List Version → List Version → Type 0
  HasDone task i now then = then ≡ after s i now (ask_to task i)

  -- a node that answered has done what was asked, and each other one has or hasn't
  pub record IsAfterPhase (task : SeenTask) (now : Keeps) (replies : List (Option Reply)) (then : Keeps) : Type 0 where
    pub answered : (i : ℕ) (given : Reply) → slice_get replies i ≡ Some (Some given) → HasDone task i (now i) (then i)
    pub silent : (i : ℕ) → slice_get replies i ≡ Some None → (then i ≡ now i) ⊎ HasDone task i (now i) (then i)

  -- each node has done what was asked, or hasn't
  abbrev pub IsCutOff : SeenTask → Keeps → Keeps → Type 0
  IsCutOff task now then = (i : ℕ) → i < s.n → (then i ≡ now i) ⊎ HasDone task i (now i) (then i)
