-- A store: a seat for each node of a cluster, on which a node with its disk may sit, and what a crash may leave of it.
use Rattle.std.specs.Prelude.{◌≡◌, ℕ, ◌<◌, Bool, false, not, cond, if◌then◌else◌, List, length, Option, slice_index_or}
use Rattle.std.specs.declared.option.Option.TheVariants.{None, Some}
use Rattle.std.specs.List.{AllByRecursion}
use Rattle.quorum_rules.specs.Limits.{Numbers, IsValid}
use Rattle.disk_model.specs.Crash.{Pending, MayLeave, settled}
use Rattle.node_core.specs.Seen.{SeenNode}
use Rattle.version_disk.specs.Held.{held}
use Rattle.version_disk.specs.Stored.{Stored}
use Rattle.version_disk.specs.declared.prune.Prune.{Prune}

-- the cluster's numbers, and for each number of a node that node, where one sits there; and by which stamps blocks may be pruned, each that
-- of an operation that was acknowledged, the latest last
pub record SeenStore (D : Type 0) : Type 0 where
  pub config : Numbers
  pub seats : List (Option (Stored D))
  pub acknowledged : List Prune

-- these are stamps of blocks of the device
abbrev pub AreOfDevice : Numbers → List Prune → Type 0
AreOfDevice c prunes = AllByRecursion (λ p. p.block < c.blocks) prunes

-- what each node keeps
abbrev pub Nodes : Type 0
Nodes = ℕ → SeenNode

module _ {D : Type 0} where
  -- the node that sits there, if one does
  abbrev pub seat_at : SeenStore D → ℕ → Option (Stored D)
  seat_at store i = slice_index_or store.seats i None

  -- a node sits there, and its disk hasn't failed
  abbrev pub is_up : Option (Stored D) → Bool
  is_up None = false
  is_up (Some node) = not node.broken

  -- which nodes aren't up: no node sits there, or its disk has failed
  abbrev pub down_in : SeenStore D → ℕ → Bool
  down_in store i = not (is_up (seat_at store i))

  -- what the node of a seat keeps: what it tells where it is up, and this otherwise
  abbrev pub kept_at : Option (Stored D) → SeenNode → SeenNode
  kept_at None gone = gone
  kept_at (Some node) gone = if node.broken then gone else node.node

  -- what each node keeps, where those that aren't up keep this
  abbrev pub kept_in : SeenStore D → Nodes → Nodes
  kept_in store gone i = kept_at (seat_at store i) (gone i)

  module _ (pending : D → Pending) (seen : D → List ℕ) where
    -- a node that is up is one of the cluster, and its disk has it, safe from a crash
    pub record IsSound (c : Numbers) (number : ℕ) (node : Stored D) : Type 0 where
      pub config : node.node.config ≡ c
      pub numbered : node.node.number ≡ number
      pub durable : pending node.disk ≡ settled (seen node.disk)
      pub state : held c number (seen node.disk) ≡ node.node

    -- for each node a seat, on which that node sits if one does
    pub record IsStore (store : SeenStore D) : Type 0 where
      pub valid : IsValid store.config
      pub count : length store.seats ≡ store.config.n
      pub sound : (i : ℕ) (node : Stored D) → seat_at store i ≡ Some node → node.broken ≡ false → IsSound store.config i node

  module _ (pending : D → Pending) where
    -- what the node of a seat is found to keep when its disk is opened again after a crash now, or if nothing more happens to it
    abbrev pub IsFoundAt : Numbers → ℕ → (old new : Option (Stored D)) → (gone kept : SeenNode) → Type 0
    IsFoundAt c i (Some was) (Some is) gone kept =
        cond was.broken (kept ≡ gone) ((bytes : List ℕ) × MayLeave (pending is.disk) bytes × (kept ≡ held c i bytes))
    IsFoundAt c i _ _ gone kept = kept ≡ gone

    -- each node keeps what it is found to keep after a call
    abbrev pub IsFound : SeenStore D → SeenStore D → Nodes → Nodes → Type 0
    IsFound old new gone kept = (i : ℕ) → i < old.config.n → IsFoundAt old.config i (seat_at old i) (seat_at new i) (gone i) (kept i)

  module _ (moment : D → ℕ) (left_since : D → ℕ → List ℕ → Type 0) where
    -- what the node of a seat is found to keep when its disk is opened again after a crash at some moment of a call
    abbrev pub IsLeftAt : Numbers → ℕ → (old new : Option (Stored D)) → (gone kept : SeenNode) → Type 0
    IsLeftAt c i (Some was) (Some is) gone kept =
        cond was.broken (kept ≡ gone) ((bytes : List ℕ) × left_since is.disk (moment was.disk) bytes × (kept ≡ held c i bytes))
    IsLeftAt c i _ _ gone kept = kept ≡ gone

    -- each node keeps what a crash at some moment of the call left, each at a moment of its own
    abbrev pub IsLeft : SeenStore D → SeenStore D → Nodes → Nodes → Type 0
    IsLeft old new gone kept = (i : ℕ) → i < old.config.n → IsLeftAt old.config i (seat_at old i) (seat_at new i) (gone i) (kept i)
