-- Blocks that are settled, and what settling does to a store.
use Rattle.std.specs.Prelude.{◌≡◌, ◌⊎◌, ◌≤◌, ℕ, ⊤, ◌+◌, ◌&&◌, Bool, true, false, not, nat_le, nat_lt, if◌then◌else◌, List, [], ◌∷◌, ◌++◌, map, length, filter, count_by, Option}
use Rattle.std.specs.declared.option.Option.TheVariants.{None, Some}
use Rattle.std.specs.List.{list_all, list_any, range_with_len}
use Rattle.std.specs.Option.{option_map}
use Rattle.quorum_rules.specs.Limits.{wait_of}
use Rattle.stamp_order.specs.declared.Stamp.{Stamp}
use Rattle.stamp_order.specs.Stamps.{up_to, same_stamp}
use Rattle.wire_forms.specs.declared.op.Op.{Op}
use Rattle.wire_forms.specs.declared.op.Op.TheVariants.{Write}
use Rattle.protocol.specs.Operations.{Outcome}
use Rattle.protocol.specs.Seen.{block_of}
use Rattle.disk_model.specs.Crash.{Pending}
use Rattle.store_device.specs.Stores.{SeenStore}
use Rattle.store_device.specs.Calls.{Call, Leads}
use Rattle.store_device.specs.Calls.Deed.{Performs}
use Rattle.store_device.specs.Settled.{KeepsAtMost}
use Rattle.store_care.specs.Given.{Given, given, reads_from}
use Rattle.store_care.specs.Holdings.{newest_at}

-- a stamp, if there is one, is this one or less
abbrev pub is_up_to : Stamp → Option Stamp → Bool
is_up_to stamp None = true
is_up_to stamp (Some s) = up_to s stamp

-- there is a stamp, and it is this one
abbrev pub is_this : Stamp → Option Stamp → Bool
is_this stamp None = false
is_this stamp (Some s) = same_stamp s stamp

-- it is the greatest of these stamps, and that of so many of them at least
abbrev pub leads : ℕ → List (Option Stamp) → Option Stamp → Bool
leads least stamps None = false
leads least stamps (Some s) = list_all (is_up_to s) stamps && nat_le least (length (filter (is_this s) stamps))

module _ {D : Type 0} where
  -- the stamp of the newest version of a block at each seat; None where no node is up there
  abbrev pub newest_stamps : SeenStore D → ℕ → List (Option Stamp)
  newest_stamps store block = map (λ seat. option_map (λ v. v.stamp) (newest_at store block seat)) (range_with_len 0 store.config.n)

  -- the newest version that any node that is up keeps of the block is the newest at n-t of them at least
  abbrev pub is_settled : SeenStore D → ℕ → Bool
  is_settled store block = list_any (leads (wait_of store.config) (newest_stamps store block)) (newest_stamps store block)

  -- reads of those of so many blocks, from one on, that aren't settled
  abbrev pub unsettled : SeenStore D → (first count : ℕ) → List Op
  unsettled store first count = filter (λ op. not (is_settled store (block_of op))) (reads_from first count)

  -- a block is written with what a read of it gave, if it gave something and the block isn't settled
  abbrev pub write_of : SeenStore D → ℕ → Option Given → List Op
  write_of store block None = []
  write_of store block (Some g) = if is_settled store block then [] else (Write block g.value ∷ [])

  -- and so each block that was read, where the reads ended so
  abbrev pub writes_by : SeenStore D → List Op → List (Option Outcome) → List Op
  writes_by store (op ∷ ops) (outcome ∷ outcomes) = write_of store (block_of op) (given store.config.size outcome) ++ writes_by store ops outcomes
  writes_by store _ _ = []

  -- of blocks of a store that was this
  module _ (first count : ℕ) (old : SeenStore D) where
    -- those that weren't settled were read
    pub record IsReadingUnsettled (read : Call D) : Type 0 where
      pub told : Option (List (Option Outcome))
      pub is : read.deed ≡ Performs (unsettled old first count) told

    -- those that weren't settled were read, and those of them that weren't settled then written, each with what its read gave
    pub record IsSettling (read again : Call D) : Type 0 where
      pub outcomes : List (Option Outcome)
      pub reads : read.deed ≡ Performs (unsettled old first count) (Some outcomes)
      pub told : Option (List (Option Outcome))
      pub writes : again.deed ≡ Performs (writes_by read.store (unsettled old first count) outcomes) told

    -- the calls are these and no others; the first few of them where memory was wanting
    abbrev pub AreSettling : List (Call D) → Type 0
    AreSettling [] = ⊤
    AreSettling (read ∷ []) = IsReadingUnsettled read
    AreSettling (read ∷ again ∷ []) = IsSettling read again
    AreSettling _ = ⊥

-- a try to settle so many blocks, from one on: its calls, and the store behind them
pub record Try (D : Type 0) : Type 0 where
  pub first : ℕ
  pub count : ℕ
  pub calls : List (Call D)
  pub store : SeenStore D

module _ {D : Type 0} (pending : D → Pending) (seen : D → List ℕ) (capacity : D → ℕ) (moment : D → ℕ) (left_since : D → ℕ → List ℕ → Type 0) where
  -- tries, one after the other, lead from the one store to the other
  abbrev pub TriesLead : SeenStore D → List (Try D) → SeenStore D → Type 0
  TriesLead old [] new = new ≡ old
  TriesLead old (one ∷ tries) new =
      Leads pending seen capacity moment left_since old one.calls one.store × AreSettling one.first one.count old one.calls × TriesLead one.store tries new

-- ---- what tries come to for a block

module _ {D : Type 0} where
  -- how many of the tries are of the block
  abbrev pub tries_of : ℕ → List (Try D) → ℕ
  tries_of block tries = count_by (λ t. nat_le t.first block && nat_lt block (t.first + t.count)) tries

  -- the block is settled in the store, or behind one of the tries
  abbrev pub WasSettled : SeenStore D → List (Try D) → ℕ → Type 0
  WasSettled store [] block = is_settled store block ≡ true
  WasSettled store (one ∷ tries) block = (is_settled store block ≡ true) ⊎ WasSettled one.store tries block

  -- it was settled at some time, or was tried four times
  abbrev pub IsTriedOut : SeenStore D → List (Try D) → ℕ → Type 0
  IsTriedOut store tries block = WasSettled store tries block ⊎ (4 ≤ tries_of block tries)

-- ---- what a settled block is in a store's life

-- Where a block is settled n-t nodes that are up keep one stamp of it, and none that is up keeps a greater one.
abbrev pub SettledBlocksHold : Type 0 → Type 0
SettledBlocksHold D = (store : SeenStore D) (block : ℕ) → is_settled store block ≡ true → (stamp : Stamp) × KeepsAtMost store block stamp
