-- What is put into slots.
use Rattle.std.specs.Prelude.{◌≡◌, ◌⊎◌, ◌<◌, ℕ, ◌==◌, ◌||◌, Bool, false, true, List, [], ◌∷◌, length, All, slice_index_or}
use Rattle.slab_layout.specs.declared.shape.Shape.{Shape}
use Rattle.slab_layout.specs.Shapes.{is_marked, data_len, head_at, data_at, part}
use Rattle.slab_node.specs.declared.batch.Fresh.{Fresh}
use Rattle.slab_node.specs.Left.{nothing}
use Rattle.slab_node.specs.Changes.{ChangesOnly, AreUnmarked}

-- there is such a slot, and its head and data have their length
pub record HasSizes (s : Shape) (f : Fresh) : Type 0 where
  pub slot : f.slot < s.count
  pub head : length f.head.items ≡ 72
  pub body : length f.data.items ≡ data_len s

-- its slot isn't marked
abbrev pub IsUnmarked : Shape → List ℕ → Fresh → Type 0
IsUnmarked s bytes f = is_marked s bytes f.slot ≡ false

-- its slot is none of a set
abbrev pub IsOutOf : (ℕ → Bool) → Fresh → Type 0
IsOutOf set f = set f.slot ≡ false

-- the slot has its head and its data
pub record IsThere (s : Shape) (bytes : List ℕ) (f : Fresh) : Type 0 where
  pub head : part bytes (head_at s f.slot) 72 ≡ f.head.items
  pub body : part bytes (data_at s f.slot) (data_len s) ≡ f.data.items

-- no two have one slot
abbrev pub AreApart : List Fresh → Type 0
AreApart fs = (i j : ℕ) (d e : Fresh) → i < length fs → j < length fs → (slice_index_or fs i d).slot ≡ (slice_index_or fs j e).slot → i ≡ j

-- the slot is one of theirs
abbrev pub is_in : List Fresh → ℕ → Bool
is_in [] i = false
is_in (f ∷ fs) i = f.slot == i || is_in fs i

-- Marks were taken away and the heads and data of a batch were written. Then marks of the batch were written, each of them or not.
pub record IsHalfway (s : Shape) (cleared : ℕ → Bool) (batch : List Fresh) (old left : List ℕ) : Type 0 where
  pub mid : List ℕ
  pub before : ChangesOnly s (is_in batch) cleared nothing old mid
  pub unmarked : AreUnmarked s cleared mid
  pub there : All (λ f. IsThere s mid f) batch
  pub marks : ChangesOnly s nothing (is_in batch) nothing mid left

-- Only heads and data of a batch changed, and marks that aren't safe yet; or those marks are safe, and marks of the batch were written.
abbrev pub IsMidway : Shape → (ℕ → Bool) → List Fresh → List ℕ → List ℕ → Type 0
IsMidway s loose batch old left = ChangesOnly s (is_in batch) loose nothing old left ⊎ IsHalfway s nothing batch old left

-- The same where marks of a set of slots are taken away first.
abbrev pub IsMidwayOver : Shape → (ℕ → Bool) → List Fresh → List ℕ → List ℕ → Type 0
IsMidwayOver s going batch old left = ChangesOnly s (is_in batch) going nothing old left ⊎ IsHalfway s going batch old left

-- A batch is written: marks were taken away, the heads and data are there, and then all its marks were set.
pub record IsWritten (s : Shape) (cleared : ℕ → Bool) (batch : List Fresh) (old new : List ℕ) : Type 0 where
  pub half : IsHalfway s cleared batch old new
  pub marked : All (λ f. is_marked s new f.slot ≡ true) batch
