-- What pruning does to a store.
use Rattle.std.specs.Prelude.{◌≡◌, ℕ, zero, suc, ⊤, ◌+◌, ◌-◌, ◌*◌, min, nat_lt, if◌then◌else◌, Bool, List, [], ◌∷◌, map, filter, length, Option}
use Rattle.std.specs.declared.option.Option.TheVariants.{None, Some}
use Rattle.std.specs.List.{list_any, range_with_len}
use Rattle.wire_forms.specs.declared.op.Op.{Op}
use Rattle.protocol.specs.Operations.{Outcome}
use Rattle.protocol.specs.Seen.{block_of}
use Rattle.node_core.specs.Seen.{versions_in}
use Rattle.disk_model.specs.Crash.{Pending}
use Rattle.version_disk.specs.Stored.{Stored}
use Rattle.store_device.specs.Stores.{SeenStore, seat_at}
use Rattle.store_device.specs.Calls.{Call, Leads}
use Rattle.store_device.specs.Calls.Deed.{Performs, Prunes}
use Rattle.store_care.specs.Given.{reads_from}
use Rattle.store_care.specs.Prunes.{prunes_by}

module _ {D : Type 0} where
  -- how many versions the node of a seat keeps of a block; none where it isn't up
  abbrev pub versions_at : Option (Stored D) → ℕ → ℕ
  versions_at None block = 0
  versions_at (Some node) block = if node.broken then 0 else length (versions_in node.node block)

  -- how many beside the first ones, of this many blocks
  abbrev pub later_in : Option (Stored D) → ℕ → ℕ
  later_in seat zero = 0
  later_in seat (suc k) = later_in seat k + (versions_at seat k - 1)

  -- how many each seat keeps of a block
  abbrev pub version_counts : SeenStore D → ℕ → List ℕ
  version_counts store block = map (λ seat. versions_at (seat_at store seat) block) (range_with_len 0 store.config.n)

  -- some node keeps more than so many versions of the block
  abbrev pub is_overfull : SeenStore D → (most block : ℕ) → Bool
  is_overfull store most block = list_any (nat_lt most) (version_counts store block)

  -- reads of those of so many blocks, from one on, of which some node keeps more
  abbrev pub overfull : SeenStore D → (first count most : ℕ) → List Op
  overfull store first count most = filter (λ op. is_overfull store most (block_of op)) (reads_from first count)

  -- of blocks of a store that was this
  module _ (first count most : ℕ) (old : SeenStore D) where
    -- those of which some node kept more were read
    pub record IsReadingOverfull (read : Call D) : Type 0 where
      pub told : Option (List (Option Outcome))
      pub is : read.deed ≡ Performs (overfull old first count most) told

    -- those of which some node kept more were read, and then pruned, each by the stamp that its read gave
    pub record IsPruning (read prune : Call D) : Type 0 where
      pub outcomes : List (Option Outcome)
      pub is : read.deed ≡ Performs (overfull old first count most) (Some outcomes)
      pub by_reads : prune.deed ≡ Prunes (prunes_by (overfull old first count most) outcomes)

    -- the calls are these and no others; the first few of them where memory was wanting
    abbrev pub ArePruning : List (Call D) → Type 0
    ArePruning [] = ⊤
    ArePruning (read ∷ []) = IsReadingOverfull read
    ArePruning (read ∷ prune ∷ []) = IsPruning read prune
    ArePruning _ = ⊥

module _ {D : Type 0} (pending : D → Pending) (seen : D → List ℕ) (capacity : D → ℕ) (moment : D → ℕ) (left_since : D → ℕ → List ℕ → Type 0) (most : ℕ) where
  -- of the 64 blocks of this group, or as many as there are, those of which some node kept more were read and pruned
  pub record HasPassed (group : ℕ) (old new : SeenStore D) : Type 0 where
    pub calls : List (Call D)
    pub led : Leads pending seen capacity moment left_since old calls new
    pub pruning : ArePruning (group * 64) (min 64 (old.config.blocks - group * 64)) most old calls
    pub both : length calls ≡ 2

  -- and so of each of the first few groups, one after the other
  abbrev pub HavePassed : (groups : ℕ) → SeenStore D → SeenStore D → Type 0
  HavePassed zero old new = new ≡ old
  HavePassed (suc group) old new = (mid : SeenStore D) × HavePassed group old mid × HasPassed group mid new
