-- The slots that the bytes of a slab tell.
use Rattle.std.specs.Prelude.{◌≡◌, ◌<◌, ℕ, zero, suc, ◌==◌, ◌&&◌, Bool, true, false, nat_lt, if◌then◌else◌, List, [], length, map}
use Rattle.std.specs.List.{AllByRecursion}
use Rattle.protocol.specs.Messages.{Version}
use Rattle.slab_layout.specs.declared.shape.Shape.{Shape}
use Rattle.slab_layout.specs.Shapes.{part, head_at, data_at, data_len, is_marked}
use Rattle.slab_layout.specs.declared.head.Head.{Head}
use Rattle.slab_layout.specs.Heads.{head_in}
use Rattle.slab_layout.specs.Data.{version_in}
use Rattle.slab_node.specs.Held.{versions}
use Rattle.slab_index.specs.Kept.{Kept, stamp_of, put_kept, kept_in, with_kept, without_slot}

-- the head of slot i
abbrev pub head_of : Shape → List ℕ → ℕ → Head
head_of s bytes i = head_in (part bytes (head_at s i) 72)

-- what an index has of it
abbrev pub kept_of : ℕ → Head → Kept
kept_of i h = record { slot = i; client = h.stamp.client; time = h.stamp.time; number = h.number; data_check = h.data_check; verifier = h.stamp.verifier }

-- the marked slots of a block, of so many slots from number i on, in the order of their numbers
abbrev pub slots_from : (ℕ → Bool) → (ℕ → Head) → ℕ → ℕ → ℕ → List Kept
slots_from marked head block i zero = []
slots_from marked head block i (suc n) =
    if marked i && ((head i).block == block) then put_kept (kept_of i (head i)) (slots_from marked head block (suc i) n) else slots_from marked head block (suc i) n

-- the slots of a block, where these slots count
abbrev pub slots_by : Shape → (ℕ → Bool) → List ℕ → ℕ → List Kept
slots_by s marked bytes block = slots_from marked (head_of s bytes) block 0 s.count

abbrev pub slots_of : Shape → List ℕ → ℕ → List Kept
slots_of s bytes block = slots_by s (is_marked s bytes) bytes block

-- an index with one slot more, if it has the slot's block
abbrev pub with_slot : ℕ → Head → List (List Kept) → List (List Kept)
with_slot i h index = if nat_lt h.block (length index) then with_kept index h.block (put_kept (kept_of i h) (kept_in index h.block)) else index

-- the same where the bytes have the slot marked
abbrev pub taken : Shape → List ℕ → ℕ → List (List Kept) → List (List Kept)
taken s bytes i index = if is_marked s bytes i then with_slot i (head_of s bytes i) index else index

-- an index has, for each block, the slots of the block that count
pub record IsIndexBy (s : Shape) (marked : ℕ → Bool) (bytes : List ℕ) (index : List (List Kept)) : Type 0 where
  pub blocks : length index ≡ s.blocks
  pub each : (block : ℕ) → block < s.blocks → kept_in index block ≡ slots_by s marked bytes block

-- it has those that are marked
abbrev pub IsIndexOf : Shape → List ℕ → List (List Kept) → Type 0
IsIndexOf s bytes index = IsIndexBy s (is_marked s bytes) bytes index

-- the version whose data a slot has
abbrev pub version_at : Shape → List ℕ → Kept → Version
version_at s bytes k = version_in s.nodes (stamp_of k) (part bytes (data_at s k.slot) (data_len s))

-- the slots of a block have its versions
abbrev pub SlotsHoldVersions : Shape → (ℕ → Bool) → List ℕ → ℕ → Type 0
SlotsHoldVersions s marked bytes block = map (version_at s bytes) (slots_by s marked bytes block) ≡ versions s marked bytes block

-- the slot counts, and is of the block
abbrev pub is_of : (ℕ → Bool) → (ℕ → Head) → ℕ → ℕ → Bool
is_of marked head block i = marked i && ((head i).block == block)

-- Where the same slots of a block count, with the same heads, its slots are the same.
abbrev pub SameSlots : Shape → Type 0
SameSlots s =
    (m m' : ℕ → Bool) (old new : List ℕ) (block : ℕ)
    → ((k : ℕ) → k < s.count → is_of m' (head_of s new) block k ≡ is_of m (head_of s old) block k)
    → ((k : ℕ) → k < s.count → is_of m (head_of s old) block k ≡ true → head_of s new k ≡ head_of s old k)
    → slots_by s m' new block ≡ slots_by s m old block

-- Where one slot more counts, of a greater number, it comes last.
abbrev pub OneMoreSlot : Shape → Type 0
OneMoreSlot s =
    (m m' : ℕ → Bool) (old new : List ℕ) (block j : ℕ) → j < s.count
    → is_of m' (head_of s new) block j ≡ true → is_of m (head_of s old) block j ≡ false
    → ((k : ℕ) → k < s.count → (k ≡ j → ⊥) → is_of m' (head_of s new) block k ≡ is_of m (head_of s old) block k)
    → ((k : ℕ) → k < s.count → is_of m (head_of s old) block k ≡ true → head_of s new k ≡ head_of s old k)
    → ((k : ℕ) → k < s.count → is_of m (head_of s old) block k ≡ true → (head_of s old k).number < (head_of s new j).number)
    → slots_by s m' new block ≡ put_kept (kept_of j (head_of s new j)) (slots_by s m old block)

-- Where one slot counts no longer, the others stay.
abbrev pub OneSlotLess : Shape → Type 0
OneSlotLess s =
    (m m' : ℕ → Bool) (bytes : List ℕ) (block j : ℕ)
    → is_of m' (head_of s bytes) block j ≡ false
    → ((k : ℕ) → k < s.count → (k ≡ j → ⊥) → is_of m' (head_of s bytes) block k ≡ is_of m (head_of s bytes) block k)
    → slots_by s m' bytes block ≡ without_slot j (slots_by s m bytes block)

-- each of these slots counts, and is what its head tells
abbrev pub AreCounted : Shape → (ℕ → Bool) → List ℕ → ℕ → List Kept → Type 0
AreCounted s marked bytes block ks =
    AllByRecursion (λ k. (k.slot < s.count) × (is_of marked (head_of s bytes) block k.slot ≡ true) × (k ≡ kept_of k.slot (head_of s bytes k.slot))) ks

abbrev pub SlotsAreCounted : Shape → Type 0
SlotsAreCounted s = (marked : ℕ → Bool) (bytes : List ℕ) (block : ℕ) → AreCounted s marked bytes block (slots_by s marked bytes block)
