-- Pruning by the stamps that a store remembers.
use Rattle.std.specs.Prelude.{◌≡◌, ◌≤◌, ℕ, ◌+◌, ◌/◌, List, [], ◌∷◌, filter, map, length}
use Rattle.std.specs.List.{AllByRecursion, flat_map}
use Rattle.std.specs.Ordering.{nat_cmp}
use Rattle.std.specs.BTreeMap.{insert_entry}
use Rattle.stamp_order.specs.declared.Stamp.{Stamp}
use Rattle.disk_model.specs.Crash.{Pending}
use Rattle.version_disk.specs.declared.prune.Prune.{Prune}
use Rattle.store_device.specs.Stores.{SeenStore}
use Rattle.store_device.specs.Calls.{Call, Deed, Leads}
use Rattle.store_device.specs.Calls.Deed.{Performs, Prunes}
use Rattle.store_device.specs.Seating.{forgetting}
use Rattle.store_care.specs.Pruning.{is_overfull}

-- blocks with their stamps, ascending, and those that come in the place of what was there
abbrev pub with_stamps : List (ℕ × Stamp) → List Prune → List (ℕ × Stamp)
with_stamps stamps [] = stamps
with_stamps stamps (p ∷ prunes) = with_stamps (insert_entry nat_cmp stamps p.block p.stamp) prunes

-- the prune of a block by its stamp
abbrev pub prune_of : ℕ × Stamp → Prune
prune_of e = record { block = e.0; stamp = e.1 }

-- of each block the latest of the prunes, ascending
abbrev pub latest : List Prune → List Prune
latest prunes = map prune_of (with_stamps [] prunes)

-- the blocks that a call prunes
abbrev pub pruned_in : Deed → List Prune
pruned_in (Performs ops told) = []
pruned_in (Prunes prunes) = prunes

-- a call prunes, and at most 64 blocks
abbrev pub IsGroup : Deed → Type 0
IsGroup (Performs ops told) = ⊥
IsGroup (Prunes prunes) = length prunes ≤ 64

module _ {D : Type 0} where
  -- the latest prune of each block that the store remembers, where some node keeps more than so many versions of the block
  abbrev pub remembered : SeenStore D → (most : ℕ) → List Prune
  remembered store most = filter (λ p. is_overfull store most p.block) (latest store.acknowledged)

  -- the calls are these prunes, in order, in as few groups as may be, and nothing else
  pub record AreGroupsOf (prunes : List Prune) (calls : List (Call D)) : Type 0 where
    pub groups : AllByRecursion (λ (call : Call D). IsGroup call.deed) calls
    pub all : flat_map (λ (call : Call D). pruned_in call.deed) calls ≡ prunes
    pub count : length calls ≡ (length prunes + 63) / 64

module _ {D : Type 0} (pending : D → Pending) (seen : D → List ℕ) (capacity : D → ℕ) (moment : D → ℕ) (left_since : D → ℕ → List ℕ → Type 0) (most : ℕ) where
  -- Each block of which the store remembered a stamp, and some node kept more than so many versions, was pruned by the latest stamp. Then the
  -- store forgot all stamps.
  pub record HasPrunedRemembered (old new : SeenStore D) : Type 0 where
    pub calls : List (Call D)
    pub last : SeenStore D
    pub led : Leads pending seen capacity moment left_since old calls last
    pub pruned : AreGroupsOf (remembered old most) calls
    pub forgot : new ≡ forgetting last
