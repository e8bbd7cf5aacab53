-- Where enough nodes are up and have room, each operation of a call comes to its end.
use Rattle.std.specs.Prelude.{◌≡◌, ℕ, ◌+◌, ◌*◌, ◌<◌, ◌≤◌, ⊤, Bool, true, false, not, ◌&&◌, List, [], ◌∷◌, length, is_some, Option, Result, slice_get}
use Rattle.std.specs.declared.option.Option.TheVariants.{None, Some}
use Rattle.std.specs.declared.result.Result.TheVariants.{Ok, Err}
use Rattle.stamp_order.specs.declared.Bound.TheVariants.{All as Every}
use Rattle.wire_forms.specs.declared.op.Op.{Op}
use Rattle.protocol.specs.Count.{count}
use Rattle.protocol.specs.Messages.{Ask, Reply}
use Rattle.protocol.specs.Instance.{setting}
use Rattle.protocol.specs.Seen.{SeenTask, block_of}
use Rattle.slot_disk.specs.Bodies.{bodies}
use Rattle.slot_disk.specs.Slots.{body_len}
use Rattle.version_disk.specs.Stored.{Stored, all_fit}
use Rattle.version_disk.specs.declared.refusal.StoreRefusal.{StoreRefusal}
use Rattle.version_disk.specs.declared.refusal.StoreRefusal.TheVariants.{NoMemory}
use Rattle.block_phases.specs.Endings.{IsAsked, kept_within, phases_left}
use Rattle.batch_clients.specs.Batches.{Stand, Running}
use Rattle.batch_clients.specs.Batches.Stand.{Asks, Ended, Lost}
use Rattle.store_device.specs.Stores.{SeenStore, kept_in, seat_at}
use Rattle.store_device.specs.Told.{kept_of}
use Rattle.store_device.specs.Lives.{first_nodes}

-- what was answered, where memory was found
abbrev pub answer_of : {A E : Type 0} → Result (Option A) E → Option A
answer_of (Ok answer) = answer
answer_of (Err why) = None

-- there is an answer, or no memory was found for one
abbrev pub gave : {A E : Type 0} → Result (Option A) E → Bool
gave (Ok answer) = is_some answer
gave (Err why) = true

-- no memory was found
abbrev pub is_memory : StoreRefusal → Bool
is_memory NoMemory = true
is_memory _ = false

module _ {D : Type 0} where
  -- how many versions of a block the nodes that are up keep all together, and one for each other node
  abbrev pub versions_of : SeenStore D → ℕ → ℕ
  versions_of store block = kept_within Every store.config.n (kept_of (kept_in store (first_nodes store.config)) block)

  -- and how many phases an operation there takes at most
  abbrev pub phases_on : SeenStore D → ℕ → ℕ
  phases_on store block = 2 * versions_of store block + 2

  -- so few that each of the operations may come to its end
  abbrev pub AreFew : SeenStore D → List Op → Type 0
  AreFew store [] = ⊤
  AreFew store (op ∷ ops) = (phases_on store (block_of op) < 1_000_000) × AreFew store ops

  module _ (seen : D → List ℕ) (most : D → ℕ) where
    -- a node sits there and is up, and so many slots more fit its disk
    abbrev pub has_room : ℕ → Option (Stored D) → Bool
    has_room more None = false
    has_room more (Some node) =
        not node.broken
        && all_fit (body_len node.node.config) (length (bodies (body_len node.node.config) (seen node.disk))) more (most node.disk)

    -- at least n-t nodes are up, and have room for so many slots
    abbrev pub IsEnough : ℕ → SeenStore D → Type 0
    IsEnough more store = store.config.n ≤ count store.config.n (λ i. has_room more (seat_at store i)) + store.config.t

    -- where a node is up when it was handed asks, and has room for as many slots, so it was before, and it gave an answer
    abbrev pub RepliesIn : ℕ → Bool → (old new : Option (Stored D)) → Type 0
    RepliesIn asks given old new =
        (more : ℕ) → asks ≤ more → has_room more new ≡ true → (has_room more old ≡ true) × (given ≡ true)

    -- so it is of each node, of which these are the answers
    abbrev pub HaveReplied : (asks : ℕ → List Ask) (answers : List (Option (List Reply))) (old new : SeenStore D) → Type 0
    HaveReplied asks answers old new =
        (i : ℕ) → i < old.config.n
        → (answer : Option (List Reply)) × (slice_get answers i ≡ Some answer)
        × RepliesIn (length (asks i)) (is_some answer) (seat_at old i) (seat_at new i)

  -- ---- operations on the way

  module _ (start : SeenStore D) (phases : ℕ) where
    -- the operation has asked this phase, and comes to its end in time
    pub record IsComing (op : Op) (task : SeenTask) : Type 0 where
      pub asked : IsAsked (setting start.config) task
      pub phase : task.phase ≡ phases
      pub in_time : phases + phases_left start.config.n (kept_of (kept_in start (first_nodes start.config)) (block_of op)) task.stage
          ≤ 1 + phases_on start (block_of op)

    abbrev pub ComesAt : Op → Stand → Type 0
    ComesAt op (Asks task) = IsComing op task
    ComesAt op (Ended outcome) = ⊤
    ComesAt op Lost = ⊥

    -- each of the operations has ended, or is on the way
    abbrev pub AllCome : List Op → List Running → Type 0
    AllCome [] [] = ⊤
    AllCome (op ∷ ops) (r ∷ runs) = ComesAt op r.stand × AllCome ops runs
    AllCome _ _ = ⊥
