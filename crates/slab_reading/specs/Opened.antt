-- What opening a slab tells.
use Rattle.std.specs.Prelude.{◌≡◌, ◌⊎◌, ◌≤◌, ◌<◌, ◌-◌, ℕ, Bool, true, false, not, max, List, [], length, slice_index, slice_index_or, slice_set, replicate}
use Rattle.sqlite_disk.specs.Disk.{Holds}
use Rattle.sqlite_disk.specs.Digest.{digest}
use Rattle.slab_layout.specs.declared.shape.Shape.{Shape}
use Rattle.slab_layout.specs.Shapes.{part, mark_at, head_at, data_at, data_len, is_marked, answers_for}
use Rattle.slab_layout.specs.declared.head.Head.{Head}
use Rattle.slab_layout.specs.Heads.{head_in, head_bytes, HasPlace}
use Rattle.slab_index.specs.declared.kept.Kept.{Kept}
use Rattle.slab_index.specs.Kept.{kept_in}
use Rattle.slab_index.specs.Slots.{head_of, slots_from, with_slot}
use Rattle.slab_reading.specs.declared.fault.ReadFault.{ReadFault}
use Rattle.slab_reading.specs.declared.fault.OpenFault.{OpenFault}
use Rattle.slab_reading.specs.declared.fault.OpenFault.TheVariants.{NoMemory, Failed, Damaged}
use Rattle.slab_reading.specs.declared.fault.ReadFault.TheVariants.{NoMemory as ReadNoMemory, Failed as ReadFailed}
use Rattle.slab_reading.specs.declared.opened.Opened.{Opened}

-- for each block, whether the node answers for it
pub record AreAnswers (s : Shape) (bytes : List ℕ) (answers : List Bool) : Type 0 where
  pub blocks : length answers ≡ s.blocks
  pub each : (block : ℕ) → block < s.blocks → slice_index_or answers block false ≡ answers_for s bytes block

-- for each slot from number i on, whether it is free: its mark isn't 1
pub record AreFreeFrom (s : Shape) (bytes : List ℕ) (i : ℕ) (free : List Bool) : Type 0 where
  pub count : length free ≡ s.count
  pub each : (slot : ℕ) → i ≤ slot → slot < s.count → slice_index_or free slot false ≡ not (is_marked s bytes slot)

abbrev pub AreFree : Shape → List ℕ → List Bool → Type 0
AreFree s bytes free = AreFreeFrom s bytes 0 free

-- the greatest number of the heads of marked slots from number i on, or 0 where there is none
pub record IsLastNumberFrom (s : Shape) (bytes : List ℕ) (i number : ℕ) : Type 0 where
  pub least : (slot : ℕ) → i ≤ slot → slot < s.count → is_marked s bytes slot ≡ true → (head_of s bytes slot).number ≤ number
  pub reached : (number ≡ 0) ⊎ ((slot : ℕ) × (i ≤ slot) × (slot < s.count) × (is_marked s bytes slot ≡ true) × ((head_of s bytes slot).number ≡ number))

abbrev pub IsLastNumber : Shape → List ℕ → ℕ → Type 0
IsLastNumber s bytes number = IsLastNumberFrom s bytes 0 number

-- bytes are what the head is written as that they tell, so they fit their check
pub record AreHead (key : ℕ) (bytes : List ℕ) : Type 0 where
  pub written : bytes ≡ head_bytes key (head_in bytes)

-- no head is written as these bytes
pub record AreNoHead (key : ℕ) (bytes : List ℕ) : Type 0 where
  pub none : (h : Head) → HasPlace h → bytes ≡ head_bytes key h → ⊥

-- the head of slot i fits its check, or is none
abbrev pub HeadFits : Shape → ℕ → List ℕ → ℕ → Type 0
HeadFits s key bytes i = AreHead key (part bytes (head_at s i) 72)

abbrev pub IsNoHead : Shape → ℕ → List ℕ → ℕ → Type 0
IsNoHead s key bytes i = AreNoHead key (part bytes (head_at s i) 72)

-- the head of each marked slot fits its check
abbrev pub HeadsFitFrom : Shape → ℕ → List ℕ → ℕ → Type 0
HeadsFitFrom s key bytes i = (slot : ℕ) → i ≤ slot → slot < s.count → is_marked s bytes slot ≡ true → HeadFits s key bytes slot

abbrev pub HeadsFit : Shape → ℕ → List ℕ → Type 0
HeadsFit s key bytes = HeadsFitFrom s key bytes 0

-- what the slots from number i on tell
pub record IsOpenedFrom (s : Shape) (key : ℕ) (bytes : List ℕ) (i : ℕ) (o : Opened) : Type 0 where
  pub blocks : length o.index ≡ s.blocks
  pub each : (block : ℕ) → block < s.blocks → kept_in o.index block ≡ slots_from (is_marked s bytes) (head_of s bytes) block i (s.count - i)
  pub free : AreFreeFrom s bytes i o.free.items
  pub unread : (slot : ℕ) → slot < i → slice_index_or o.free.items slot false ≡ false
  pub last : IsLastNumberFrom s bytes i o.last_number
  pub heads : HeadsFitFrom s key bytes i

-- the data of a slot fit the check that is kept of it
abbrev pub DataFit : Shape → ℕ → List ℕ → Kept → Type 0
DataFit s key bytes k = k.data_check ≡ digest key (part bytes (data_at s k.slot) (data_len s))

-- the data of a slot fit the check in its head
abbrev pub SlotDataFit : Shape → ℕ → List ℕ → ℕ → Type 0
SlotDataFit s key bytes slot = (head_of s bytes slot).data_check ≡ digest key (part bytes (data_at s slot) (data_len s))

-- the head and the data of a slot fit their checks
pub record SlotFits (s : Shape) (key : ℕ) (bytes : List ℕ) (slot : ℕ) : Type 0 where
  pub head : HeadFits s key bytes slot
  pub body : SlotDataFit s key bytes slot

-- nothing is known yet
pub record IsEmpty (s : Shape) (o : Opened) : Type 0 where
  pub blocks : length o.index ≡ s.blocks
  pub each : (block : ℕ) → kept_in o.index block ≡ []
  pub free : o.free.items ≡ replicate s.count false
  pub last : o.last_number ≡ 0

-- a free slot was added
pub record AddsFree (slot : ℕ) (old new : Opened) : Type 0 where
  pub index : new.index ≡ old.index
  pub free : new.free.items ≡ slice_set old.free.items slot true
  pub last : new.last_number ≡ old.last_number

-- a marked slot was added
pub record AddsMarked (slot : ℕ) (h : Head) (old new : Opened) : Type 0 where
  pub index : new.index ≡ with_slot slot h old.index
  pub free : new.free.items ≡ old.free.items
  pub last : new.last_number ≡ max old.last_number h.number

-- a slot of this mark was added, whose head is told by these bytes
abbrev pub AddsSlot : ℕ → ℕ → ℕ → List ℕ → Opened → Opened → Type 0
AddsSlot key slot mark head old new =
    ((mark ≡ 1) × AreHead key head × AddsMarked slot (head_in head) old new) ⊎ ((mark ≡ 1 → ⊥) × AddsFree slot old new)

-- the marks of slots from a number on, and their heads, where any of them is marked
pub record IsRun (s : Shape) (bytes : List ℕ) (first : ℕ) (marks heads : List ℕ) : Type 0 where
  pub its_marks : Holds bytes (mark_at s first) marks
  pub its_heads : (i : ℕ) → i < length marks → slice_index marks i ≡ 1 → Holds bytes (head_at s first) heads

-- this holds of the slot that is damaged
abbrev pub IfDamaged : (ℕ → Type 0) → OpenFault → Type 0
IfDamaged P NoMemory = Unit {0}
IfDamaged P (Failed fault) = Unit {0}
IfDamaged P (Damaged slot) = P slot

-- this holds where a call of the file failed
abbrev pub IfReadFailed : Type 0 → ReadFault → Type 0
IfReadFailed P ReadNoMemory = Unit {0}
IfReadFailed P (ReadFailed fault) = P

abbrev pub IfFailed : Type 0 → OpenFault → Type 0
IfFailed P NoMemory = Unit {0}
IfFailed P (Failed fault) = P
IfFailed P (Damaged slot) = Unit {0}

-- what was not read, as a reason not to open
abbrev pub open_fault : ReadFault → OpenFault
open_fault ReadNoMemory = NoMemory
open_fault (ReadFailed fault) = Failed fault
