-- The turn of an operation in a phase: what it may hear, and what it comes to.
use Rattle.std.specs.Prelude.{◌≡◌, ℕ, ◌+◌, ◌-◌, ◌^◌, ◌<◌, List, [], ◌∷◌, length, Option}
use Rattle.std.specs.declared.option.Option.TheVariants.{Some}
use Rattle.quorum_rules.specs.Limits.{Numbers}
use Rattle.protocol.specs.Messages.{Reply, Message}
use Rattle.protocol.specs.Instance.{setting}
use Rattle.protocol.specs.Seen.{SeenTask, phase_of}
use Rattle.client_core.specs.Clients.{mail_of}
use Rattle.operation_core.specs.Clients.{ClientView}
use Rattle.batch_clients.specs.declared.run.Standing.TheVariants.{Asking}
use Rattle.batch_clients.specs.declared.run.Run.{Run}
use Rattle.batch_clients.specs.declared.turn.Turn.{Turn}
use Rattle.batch_clients.specs.declared.turn.Turn.TheVariants.{Hears, Asks, Over, Starved}
use Rattle.batch_clients.specs.Batches.{Running, how_many, stand_heard}
use Rattle.batch_clients.specs.Batches.Stand.{Asks as AsksOne}
use Rattle.batch_clients.specs.Parts.{running, stand_of, stand_in, stand_by, phase_at, left_by, IsAsking, IsRun}

-- the client asks the next phase of the operation that then stands so
pub record HasMail (c : Numbers) (r : Running) (phase id : ℕ) (client : ClientView) (mail : List Message) : Type 0 where
  pub asker : ClientView
  pub task : SeenTask
  pub cluster : asker.config ≡ c
  pub mail_is : mail ≡ mail_of asker task
  pub stands : r ≡ record { client = id; stand = AsksOne task }
  pub under_way : client.seen.task ≡ Some task
  pub is_run : IsRun c phase (record { id = id; standing = Asking client })

-- an operation that asks nothing stands so
pub record IsOver (c : Numbers) (r : Running) (phase : ℕ) (run : Run) : Type 0 where
  pub stands : running run ≡ r
  pub asks_nothing : how_many r.stand ≡ 0
  pub is_run : IsRun c phase run

-- where a turn that found memory leaves its operation, in this phase at most
abbrev pub HasHeard : Numbers → Running → ℕ → Turn → Type 0
HasHeard c r phase (Hears id client replies) = ⊥
HasHeard c r phase (Asks id client mail) = HasMail c r phase id client mail
HasHeard c r phase (Over run) = IsOver c r phase run
HasHeard c r phase Starved = Unit {0}

-- a client that is to hear answers has asked for them
abbrev pub MayHear : Turn → Type 0
MayHear (Hears id client replies) = IsAsking client.config id client × (phase_of client.seen.task < 2 ^ 64 - 1) × (length replies.items < 256)
MayHear turn = Unit {0}

-- and it is an operation of this cluster
abbrev pub MayTake : Numbers → Turn → Type 0
MayTake c (Hears id client replies) = (client.config ≡ c) × MayHear (Hears id client replies)
MayTake c turn = Unit {0}

-- what a turn comes to: the answers that were to be heard are heard
abbrev pub Comes : Turn → Turn → Type 0
Comes (Hears id client replies) new =
    HasHeard client.config (record { client = id; stand = stand_by (setting client.config) id replies.items (stand_in client.seen.task) }) (phase_of client.seen.task + 1) new
Comes old new = new ≡ old

-- where these answers are left, the operation stands so when it has heard its own
abbrev pub heard_as : Numbers → List (Option (List Reply)) → Run → Running
heard_as c left run = record { client = run.id; stand = stand_heard (setting c) 0 left run.id (stand_of run.standing) }

-- the turn is this operation's, where these answers are left
pub record IsTurnOf (c : Numbers) (left : List (Option (List Reply))) (run : Run) (turn : Turn) : Type 0 where
  pub may : MayTake c turn
  pub comes : (new : Turn) → Comes turn new → HasHeard c (heard_as c left run) (phase_at (stand_of run.standing) + 1) new

-- the turns are those of the operations, one each
abbrev pub AreTurnsOf : Numbers → List (Option (List Reply)) → List Run → List Turn → Type 0
AreTurnsOf c left [] [] = Unit {0}
AreTurnsOf c left (run ∷ runs) (turn ∷ turns) = IsTurnOf c left run turn × AreTurnsOf c (left_by (stand_of run.standing) left) runs turns
AreTurnsOf c left _ _ = ⊥
