-- Who sits on a store's seats, and what prunes leave of a node.
use Rattle.std.specs.Prelude.{◌≡◌, ◌≢◌, ◌<◌, ◌≤◌, ◌⊎◌, ℕ, ⊤, Bool, true, false, cond, All, List, [], length, Option, Some, None, slice_set}
use Rattle.std.specs.List.{AllPairs}
use Rattle.quorum_rules.specs.Limits.{Numbers}
use Rattle.disk_model.specs.Crash.{Pending, LeavesOnly, settled}
use Rattle.version_disk.specs.Held.{held, slots_of, first_bad}
use Rattle.version_disk.specs.Reopened.{IsStillThere}
use Rattle.version_disk.specs.Deeds.{pruning, after_prunes, AreDoneInPart}
use Rattle.version_disk.specs.Stored.{Stored}
use Rattle.version_disk.specs.declared.prune.Prune.{Prune}
use Rattle.store_device.specs.Stores.{SeenStore, IsSound, seat_at}
use Rattle.store_device.specs.Answered.{has_room}

-- the prunes are of blocks of their own
abbrev pub ArePrunesApart : List Prune → Type 0
ArePrunesApart prunes = AllPairs (λ p q. p.block ≢ q.block) prunes

module _ {D : Type 0} where
  -- the store, where this sits at that seat
  abbrev pub with_seat : SeenStore D → ℕ → Option (Stored D) → SeenStore D
  with_seat store i seat = record store { seats = slice_set store.seats i seat }

  -- the store, which remembers no stamps any more
  abbrev pub forgetting : SeenStore D → SeenStore D
  forgetting store = record store { acknowledged = [] }

  -- a node that sits there and is up has the blocks
  abbrev pub HasBlocks : List Prune → Option (Stored D) → Type 0
  HasBlocks prunes None = ⊤
  HasBlocks prunes (Some node) = node.broken ≡ false → All (λ p. p.block < node.node.config.blocks) prunes

  module _ (pending : D → Pending) (seen : D → List ℕ) (prunes : List Prune) where
    -- the node keeps what the prunes leave, and its disk has that, safe from a crash
    pub record HasPruned (was is : Stored D) : Type 0 where
      pub state : is.node ≡ after_prunes was.node prunes
      pub held : held was.node.config was.node.number (seen is.disk) ≡ is.node
      pub durable : pending is.disk ≡ settled (seen is.disk)
      pub whole : is.broken ≡ false

    -- the node of a seat has pruned the blocks, or is as it was, or its disk failed
    abbrev pub PrunesIn : (old new : Option (Stored D)) → Type 0
    PrunesIn None new = new ≡ None
    PrunesIn (Some was) new = (is : Stored D) × (new ≡ Some is) × ((is ≡ was) ⊎ (is.broken ≡ true) ⊎ HasPruned was is)

    module _ (moment : D → ℕ) (left_since : D → ℕ → List ℕ → Type 0) where
      -- a node that was up tried to prune the blocks; a crash at any moment leaves it with the first few of them pruned
      pub record HasTried (was is : Stored D) : Type 0 where
        pub done : (is ≡ was) ⊎ (is.broken ≡ true) ⊎ HasPruned was is
        pub any_moment : LeavesOnly moment left_since was.disk is.disk
            (AreDoneInPart was.node.config was.node.number was.node (pruning prunes) (seen was.disk))

      -- what sits in a seat tried so: a node that isn't up stays as it is
      abbrev pub TriesIn : (old new : Option (Stored D)) → Type 0
      TriesIn None new = new ≡ None
      TriesIn (Some was) new = cond was.broken (new ≡ Some was) ((is : Stored D) × (new ≡ Some is) × HasTried was is)

  -- If it found no want of memory, a node that is up then and has room for a slot for each prune has pruned the blocks.
  pub record PrunesWholly (pending : D → Pending) (seen : D → List ℕ) (most : D → ℕ) (prunes : List Prune) (starved : Bool)
      (old new : Option (Stored D)) : Type 0 where
    pub wholly : starved ≡ false → has_room seen most (length prunes) new ≡ true
        → (was : Stored D) × (is : Stored D) × (old ≡ Some was) × (new ≡ Some is) × HasPruned pending seen prunes was is

  -- A disk was opened as this node: it has the slots that it had, all of them good, and the same room, and met no fewer faults. A crash
  -- meanwhile left what a crash might have left before, or these slots.
  pub record IsOpened (pending : D → Pending) (seen : D → List ℕ) (most : D → ℕ) (moment : D → ℕ) (left_since : D → ℕ → List ℕ → Type 0)
      (faults : D → ℕ) (c : Numbers) (number : ℕ) (disk : D) (node : Stored D) : Type 0 where
    pub state : node.node ≡ held c number (seen disk)
    pub slots : slots_of c (seen node.disk) ≡ slots_of c (seen disk)
    pub good : first_bad c number (seen disk) ≡ None
    pub room : most node.disk ≡ most disk
    pub later : faults disk ≤ faults node.disk
    pub any_moment : LeavesOnly moment left_since disk node.disk (IsStillThere c (pending disk) (seen disk))

  module _ (pending : D → Pending) (seen : D → List ℕ) where
    -- a node that is up goes on as it is, on another disk, which has it, safe from a crash
    pub record GoesOn (c : Numbers) (i : ℕ) (was is : Stored D) : Type 0 where
      pub up : was.broken ≡ false
      pub whole : is.broken ≡ false
      pub same : is.node ≡ was.node
      pub sound : IsSound pending seen c i is

    -- what sits at a seat is what sat there, or the node that sat there goes on as it is, or nobody sits there any more
    abbrev pub IsReseatedAt : Numbers → ℕ → (old new : Option (Stored D)) → Type 0
    IsReseatedAt c i old new =
        (new ≡ old)
        ⊎ ((was : Stored D) × (is : Stored D) × (old ≡ Some was) × (new ≡ Some is) × GoesOn c i was is)
        ⊎ (new ≡ None)

    -- so it is at each seat, and the cluster is the same; and all that the store remembered it remembers still, or nothing
    pub record IsReseated (old new : SeenStore D) : Type 0 where
      pub config : new.config ≡ old.config
      pub count : length new.seats ≡ length old.seats
      pub each : (i : ℕ) → IsReseatedAt old.config i (seat_at old i) (seat_at new i)
      pub acknowledged : (new.acknowledged ≡ old.acknowledged) ⊎ (new.acknowledged ≡ [])
