-- What is kept of each block's use, for prunes.
use Rattle.std.specs.Prelude.{◌≡◌, ℕ, ◌-◌, ◌<◌, ◌≤◌, Bool, false, not, ◌&&◌, ◌==◌, List, length, map, Option, slice_index_or, slice_set}
use Rattle.std.specs.declared.option.Option.TheVariants.{None, Some}
use Rattle.std.specs.List.{count_by}
use Rattle.quorum_rules.specs.Limits.{Numbers}
use Rattle.run_words.specs.declared.record.Record.{Record as Told}
use Rattle.protocol.specs.World.{greatest_given}
use Rattle.protocol.specs.Seen.{SeenTask, record_of}
use Rattle.world_state.specs.declared.block_use.BlockUse.{BlockUse}
use Rattle.world_state.specs.declared.client_slot.ClientSlot.{ClientSlot}

-- there is an operation, and it is on the block
abbrev pub is_on : ℕ → Option SeenTask → Bool
is_on block None = false
is_on block (Some t) = t.block == block

-- the slot's client hasn't crashed and works on the block
abbrev pub works_at : ℕ → ClientSlot → Bool
works_at block slot = not slot.crashed && is_on block slot.client.seen.task

-- how many clients work on the block, and the greatest stamp that a completed read of it gave
abbrev pub use_of : List ClientSlot → List Told → ℕ → BlockUse
use_of slots records block = record { at_work = count_by (works_at block) slots; given = greatest_given block (map record_of records) }

-- nobody works on it, and no read of it has completed
abbrev pub unused : BlockUse
unused = record { at_work = 0; given = None }

-- somebody works on a block that is there
abbrev pub IsAtWork : List BlockUse → ℕ → Type 0
IsAtWork uses block = (block < length uses) × (1 ≤ (slice_index_or uses block unused).at_work)

-- one client less works on the block, if there is one
abbrev pub one_less : List BlockUse → Option ℕ → List BlockUse
one_less uses None = uses
one_less uses (Some block) =
    slice_set uses block (record { at_work = (slice_index_or uses block unused).at_work - 1; given = (slice_index_or uses block unused).given })

-- each of the cluster's blocks is used so, and no other one is used
pub record AreUses (c : Numbers) (slots : List ClientSlot) (records : List Told) (uses : List BlockUse) : Type 0 where
  pub count : length uses ≡ c.blocks
  pub each : (block : ℕ) → slice_index_or uses block unused ≡ use_of slots records block
