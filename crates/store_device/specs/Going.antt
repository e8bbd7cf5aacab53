-- How the operations of a call stand between two phases, and what nodes keep then.
use Rattle.std.specs.Prelude.{◌≡◌, ◌≢◌, ℕ, suc, ◌<◌, ⊤, List, [], ◌∷◌, Option}
use Rattle.std.specs.declared.option.Option.TheVariants.{None, Some}
use Rattle.std.specs.List.{AllByRecursion}
use Rattle.quorum_rules.specs.Limits.{Numbers}
use Rattle.wire_forms.specs.declared.op.Op.{Op}
use Rattle.protocol.specs.Instance.{setting}
use Rattle.protocol.specs.World.{Fits}
use Rattle.protocol.specs.Operations.{Outcome}
use Rattle.protocol.specs.Seen.{SeenTask, block_of, work_of}
use Rattle.disk_model.specs.Crash.{Pending}
use Rattle.node_core.specs.Seen.{SeenNode, versions_in}
use Rattle.version_disk.specs.Stored.{Stored}
use Rattle.version_disk.specs.declared.prune.Prune.{Prune}
use Rattle.block_phases.specs.Executions.{StampedValue, IsRunning}
use Rattle.batch_clients.specs.Batches.{Stand, Running}
use Rattle.batch_clients.specs.Batches.Stand.{Asks, Ended, Lost}
use Rattle.store_device.specs.Stores.{SeenStore, Nodes, IsFound, IsLeft, IsLeftAt, kept_at, kept_in, seat_at, down_in}
use Rattle.store_device.specs.Told.{IsDone, kept_of}
use Rattle.store_device.specs.Working.{HasGoneOn}

-- the block is there, and a value that is written is a block
pub record MayBegin (c : Numbers) (op : Op) : Type 0 where
  pub there : block_of op < c.blocks
  pub fits : Fits (setting c) (work_of op)

-- what contracts see of seats, and of what is remembered
abbrev pub store_with : {D : Type 0} → Numbers → List (Option (Stored D)) → List Prune → SeenStore D
store_with c seats acknowledged = record { config = c; seats = seats; acknowledged = acknowledged }

-- of seats alone
abbrev pub store_of : {D : Type 0} → Numbers → List (Option (Stored D)) → SeenStore D
store_of c seats = store_with c seats []

module _ {D : Type 0} (pending : D → Pending) (seen : D → List ℕ) (moment : D → ℕ) (left_since : D → ℕ → List ℕ → Type 0)
    (start now : SeenStore D) where
  -- of the block each node keeps what it kept when the call began, at whichever moment since then a crash comes
  abbrev pub IsUntouched : ℕ → Type 0
  IsUntouched block =
      (i : ℕ) (gone kept : SeenNode)
      → i < start.config.n
      → IsLeftAt moment left_since start.config i (seat_at start i) (seat_at now i) gone kept
      → versions_in kept block ≡ versions_in (kept_at (seat_at start i) gone) block

  module _ (op : Op) (client : ℕ) where
    -- since the call began, the operation may have come to this outcome, or been given up, when nodes keep this
    abbrev pub HasCome : Option Outcome → Option StampedValue → Nodes → Nodes → Type 0
    HasCome outcome stored gone kept = IsDone start.config (down_in start) client op outcome stored (kept_in start gone) kept

    -- a crash at any moment since then leaves it given up, in a phase that stores this
    abbrev pub MayBeCutOff : Option StampedValue → Type 0
    MayBeCutOff stored = (gone kept : Nodes) → IsLeft moment left_since start now gone kept → HasCome None stored gone kept

    -- it is running, and has changed nothing yet
    pub record IsAsking (task : SeenTask) : Type 0 where
      pub block : task.block ≡ block_of op
      pub there : block_of op < start.config.blocks
      pub goes : (gone : Nodes)
          → IsRunning (setting start.config) (down_in start) (block_of op) client (work_of op) task
          (kept_of (kept_in start gone) (block_of op)) (kept_of (kept_in start gone) (block_of op))
      pub untouched : IsUntouched (block_of op)

    -- it has come to this outcome
    pub record HasEnded (outcome : Outcome) : Type 0 where
      pub stored : Option StampedValue
      pub found : (gone kept : Nodes) → IsFound pending start now gone kept → HasCome (Some outcome) stored gone kept
      pub left : MayBeCutOff stored

    -- it was given up
    pub record WasGivenUp : Type 0 where
      pub stored : Option StampedValue
      pub left : MayBeCutOff stored

    abbrev pub StandsAt : Stand → Type 0
    StandsAt (Asks task) = IsAsking task
    StandsAt (Ended outcome) = HasEnded outcome
    StandsAt Lost = WasGivenUp

  -- each operation stands there, the first as that of this client
  abbrev pub AreGoing : ℕ → List Op → List Running → Type 0
  AreGoing client [] [] = ⊤
  AreGoing client (op ∷ ops) (r ∷ runs) = (r.client ≡ client) × StandsAt op client r.stand × AreGoing (suc client) ops runs
  AreGoing client _ _ = ⊥

  -- each operation stands there, nothing else was changed, and each seat has gone on
  pub record IsGoing (ops : List Op) (runs : List Running) : Type 0 where
    pub config : now.config ≡ start.config
    pub seats : (i : ℕ) → i < start.config.n → HasGoneOn pending seen moment left_since start.config i (seat_at start i) (seat_at now i)
    pub operations : AreGoing 1 ops runs
    pub others : (block : ℕ) → AllByRecursion (λ op. block_of op ≢ block) ops → IsUntouched block
