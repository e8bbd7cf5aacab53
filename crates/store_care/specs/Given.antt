-- What reads of blocks gave, and what is done with that.
use Rattle.std.specs.Prelude.{◌≡◌, ℕ, ◌==◌, if◌then◌else◌, List, map, length, slice_get, slice_index_or, Option}
use Rattle.std.specs.declared.option.Option.TheVariants.{None, Some}
use Rattle.std.specs.List.{range_with_len}
use Rattle.stamp_order.specs.declared.Stamp.{Stamp}
use Rattle.wire_forms.specs.declared.op.Op.{Op}
use Rattle.wire_forms.specs.declared.op.Op.TheVariants.{Read, Write}
use Rattle.protocol.specs.Seen.{block_of}
use Rattle.protocol.specs.Operations.{Outcome, How}
use Rattle.run_words.specs.declared.outcome.Outcome.TheVariants.{Gave, Wrote}

-- reads of so many blocks, from one on
abbrev pub reads_from : ℕ → ℕ → List Op
reads_from first count = map (λ block. Read block) (range_with_len first count)

-- the block of the operation of this number
abbrev pub block_at : List Op → ℕ → ℕ
block_at ops k = slice_index_or (map block_of ops) k 0

-- how the operation of this number ended, where that was told
abbrev pub outcome_at : List (Option Outcome) → ℕ → Option Outcome
outcome_at outcomes k = slice_index_or outcomes k None

-- what a read gave of a block
pub record Given : Type 0 where
  pub stamp : Stamp
  pub value : List ℕ

abbrev pub given_by : Stamp → List ℕ → Given
given_by stamp value = record { stamp = stamp; value = value }

-- what an operation gave that ended so, where that is a block of this size
abbrev pub given : ℕ → Option Outcome → Option Given
given size (Some (Gave stamp value how rounds)) = if length value == size then Some (given_by stamp value) else None
given size _ = None

-- the stamp of a write that ended so
abbrev pub written_by : Option Outcome → Option Stamp
written_by (Some (Wrote stamp)) = Some stamp
written_by _ = None

module _ (reads : List Op) (outcomes : List (Option Outcome)) where
  -- a read of the block gave this value under this stamp
  pub record HasGiven (block : ℕ) (stamp : Stamp) (value : List ℕ) : Type 0 where
    pub number : ℕ
    pub read : slice_get reads number ≡ Some (Read block)
    pub how : How
    pub rounds : ℕ
    pub gave : outcome_at outcomes number ≡ Some (Gave stamp value how rounds)

  -- a block is written, and with the value that a read of it gave
  abbrev pub IsWrittenBack : Op → Type 0
  IsWrittenBack (Write block value) = (stamp : Stamp) × HasGiven block stamp value
  IsWrittenBack (Read block) = ⊥
