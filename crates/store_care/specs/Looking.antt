-- What a look at blocks does, and what it counts.
use Rattle.std.specs.Prelude.{◌≡◌, ℕ, ⊤, List, [], ◌∷◌, length, Option}
use Rattle.std.specs.declared.option.Option.TheVariants.{Some}
use Rattle.std.specs.List.{All}
use Rattle.wire_forms.specs.declared.op.Op.{Op}
use Rattle.protocol.specs.Operations.{Outcome}
use Rattle.store_device.specs.Stores.{SeenStore}
use Rattle.store_device.specs.Calls.{Call}
use Rattle.store_device.specs.Calls.Deed.{Performs}
use Rattle.store_care.specs.Given.{reads_from, IsWrittenBack}
use Rattle.store_care.specs.Tallies.{AreChanged, with_blocks, with_writes, failed_reads, failed_writes, still_lacks}
use Rattle.store_care.specs.declared.care.Care.{Care}

module _ {D : Type 0} (first count : ℕ) where
  -- the blocks were read
  pub record IsReading (read : Call D) : Type 0 where
    pub told : Option (List (Option Outcome))
    pub is : read.deed ≡ Performs (reads_from first count) told

  -- the blocks were read, and then some written, each with what its read gave
  pub record IsRestoring (read again : Call D) : Type 0 where
    pub outcomes : List (Option Outcome)
    pub reads : read.deed ≡ Performs (reads_from first count) (Some outcomes)
    pub ops : List Op
    pub told : Option (List (Option Outcome))
    pub writes : again.deed ≡ Performs ops told
    pub written_back : All (IsWrittenBack (reads_from first count) outcomes) ops

  -- the calls are these and no others; the first few of them where memory was wanting
  abbrev pub AreLook : List (Call D) → Type 0
  AreLook [] = ⊤
  AreLook (read ∷ []) = IsReading read
  AreLook (read ∷ again ∷ []) = IsRestoring read again
  AreLook _ = ⊥

  -- What was counted in a look that began with this store: of each seat what its node held before the reads, beside what these gave, and
  -- what it lacked then and holds after them, or after the writes; and the reads that gave nothing and the writes that weren't told of.
  pub record HasCounted (old new : Care) (before : SeenStore D) (calls : List (Call D)) : Type 0 where
    pub read : Call D
    pub again : Call D
    pub are : calls ≡ read ∷ again ∷ []
    pub outcomes : List (Option Outcome)
    pub reads : read.deed ≡ Performs (reads_from first count) (Some outcomes)
    pub ops : List Op
    pub told : List (Option Outcome)
    pub writes : again.deed ≡ Performs ops (Some told)
    pub tallies : AreChanged
        (λ seat t. with_writes (still_lacks before read.store first outcomes) again.store ops told seat (length ops)
        (with_blocks before read.store first outcomes seat count t))
        before.config.n old.tallies.items new.tallies.items
    pub failed : new.failed ≡ failed_writes told (length ops) (failed_reads before.config.size outcomes count old.failed)
