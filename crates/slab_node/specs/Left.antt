-- What a crash leaves of a slab.
use Rattle.std.specs.Prelude.{◌≡◌, ◌≤◌, ◌<◌, ℕ, ◌+◌, Bool, false, true, ◌||◌, List, length, slice_index}
use Rattle.slab_layout.specs.declared.shape.Shape.{Shape}
use Rattle.slab_layout.specs.Shapes.{answer_at, mark_at, head_at, data_at, data_len, part, is_marked, answers_for}

-- byte k is one of the head of slot i, or of its data
abbrev pub IsInHead : Shape → ℕ → ℕ → Type 0
IsInHead s i k = (head_at s i ≤ k) × (k < head_at s i + 72)

abbrev pub IsInData : Shape → ℕ → ℕ → Type 0
IsInData s i k = (data_at s i ≤ k) × (k < data_at s i + data_len s)

-- none of them
abbrev pub nothing : ℕ → Bool
nothing i = false

module _ (s : Shape) (bytes : List ℕ) (loose asked : ℕ → Bool) where
  -- slot i is free: its mark isn't 1, and it is none of those whose marks may be either way
  pub record IsFree (i : ℕ) : Type 0 where
    pub below : i < s.count
    pub unmarked : is_marked s bytes i ≡ false
    pub firm : loose i ≡ false

  -- Byte k may be written: it lies in the head or the data of a free slot, it is the mark of a loose one, or that of an asked block.
  pub data MayBeWritten (k : ℕ) : Type 0 where
    head : (i : ℕ) → IsFree i → IsInHead s i k → MayBeWritten k
    body : (i : ℕ) → IsFree i → IsInData s i k → MayBeWritten k
    mark : (i : ℕ) → i < s.count → loose i ≡ true → k ≡ mark_at s i → MayBeWritten k
    answer : (b : ℕ) → b < s.blocks → asked b ≡ true → k ≡ answer_at s b → MayBeWritten k

-- The bytes are the same in each place that may not be written.
pub record Agrees (s : Shape) (loose asked : ℕ → Bool) (old left : List ℕ) : Type 0 where
  pub no_shorter : length old ≤ length left
  pub same : (k : ℕ) → k < length old → (MayBeWritten s old loose asked k → ⊥) → slice_index left k ≡ slice_index old k

-- each byte of a range may be written
abbrev pub AllMay : Shape → (ℕ → Bool) → (ℕ → Bool) → List ℕ → ℕ → ℕ → Type 0
AllMay s loose asked bytes at n = (k : ℕ) → at ≤ k → k < at + n → MayBeWritten s bytes loose asked k

-- All but the marks of loose slots and the bytes of asked blocks is as it was, where a slot is marked or loose.
pub record IsLeft (s : Shape) (loose asked : ℕ → Bool) (old left : List ℕ) : Type 0 where
  pub marks : (i : ℕ) → i < s.count → loose i ≡ false → is_marked s left i ≡ is_marked s old i
  pub answers : (b : ℕ) → b < s.blocks → asked b ≡ false → answers_for s left b ≡ answers_for s old b
  pub heads : (i : ℕ) → i < s.count → (is_marked s old i || loose i) ≡ true → part left (head_at s i) 72 ≡ part old (head_at s i) 72
  pub data_parts : (i : ℕ) → i < s.count → (is_marked s old i || loose i) ≡ true → part left (data_at s i) (data_len s) ≡ part old (data_at s i) (data_len s)
