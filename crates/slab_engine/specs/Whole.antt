-- A node on a slab that no fault has broken.
use Rattle.std.specs.Prelude.{◌≡◌, ◌≤◌, ◌<◌, ℕ, Bool, true, false, not, List, length, IsTrue}
use Rattle.std.specs.List.{AllByRecursion}
use Rattle.quorum_rules.specs.Limits.{Numbers}
use Rattle.sqlite_disk.specs.Disk.{Only}
use Rattle.slab_layout.specs.Shapes.{is_marked, shape_of, slab_len}
use Rattle.slab_index.specs.declared.kept.Kept.{Kept}
use Rattle.slab_index.specs.Slots.{head_of, IsIndexBy}
use Rattle.slab_engine.specs.Seen.{Leaving, counted, listed}

-- there are such a slot and such a block
pub record IsThere (c : Numbers) (l : Leaving) : Type 0 where
  pub slot : l.slot < (shape_of c).count
  pub block : l.block < c.blocks

-- the slot's head tells the block and the stamp
pub record IsItsHead (c : Numbers) (bytes : List ℕ) (l : Leaving) : Type 0 where
  pub block : (head_of (shape_of c) bytes l.slot).block ≡ l.block
  pub stamp : (head_of (shape_of c) bytes l.slot).stamp ≡ l.stamp

-- what the node remembers is what the bytes tell
pub record Tells (c : Numbers) (bytes : List ℕ) (ix : List (List Kept)) (fs : List Bool) (next : ℕ) (going gone : List Leaving) : Type 0 where
  pub long : slab_len (shape_of c) ≤ length bytes
  pub index : IsIndexBy (shape_of c) (counted c gone bytes) bytes ix
  pub free : (i : ℕ) → i < (shape_of c).count → listed fs i ≡ not (counted c gone bytes i)
  pub below : (i : ℕ) → i < (shape_of c).count → counted c gone bytes i ≡ true → (head_of (shape_of c) bytes i).number < next
  pub marked : AllByRecursion (λ l. IsItsHead c bytes l × (is_marked (shape_of c) bytes l.slot ≡ true)) going
  pub cleared : AllByRecursion (λ l. IsItsHead c bytes l × (is_marked (shape_of c) bytes l.slot ≡ false)) gone

-- the file is on the disk as it is seen, and where it is clean, the node remembers what it tells
pub record IsWhole (c : Numbers) (is_usable is_clean : Bool) (seen : List ℕ) (may_leave : List ℕ → Type 0) (ix : List (List Kept)) (fs : List Bool) (next : ℕ) (going gone : List Leaving) : Type 0 where
  pub usable : IsTrue is_usable
  pub settled : Only seen may_leave
  pub leaving : AllByRecursion (IsThere c) going
  pub cleared : AllByRecursion (IsThere c) gone
  pub tells : IsTrue is_clean → Tells c seen ix fs next going gone
