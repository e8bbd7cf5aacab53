-- What steps do to blocks, and the bytes of all blocks as one string.
use Rattle.std.specs.Prelude.{◌≡◌, ℕ, ◌+◌, ◌/◌, ◌%◌, ◌<◌, ◌≤◌, ◌==◌, ◌⊎◌, if◌then◌else◌, List, [], ◌∷◌, ◌++◌, length, map, take, drop, slice_index}
use Rattle.std.specs.List.{range_with_len}
use Rattle.block_device.specs.declared.steps.BlockStep.{BlockStep}
use Rattle.block_device.specs.declared.steps.BlockStep.TheVariants.{Read, Whole, Merge}

-- what each block holds, and what the latest read of each block gave
pub record Device : Type 0 where
  pub held : ℕ → List ℕ
  pub seen : ℕ → List ℕ

-- f, but for this value at k
abbrev pub but_at : (ℕ → List ℕ) → ℕ → List ℕ → ℕ → List ℕ
but_at f k value j = if j == k then value else f j

-- old, but for these bytes from a place on
unfoldable pub merged : List ℕ → ℕ → List ℕ → List ℕ
merged old at bytes = take at old ++ bytes ++ drop (at + length bytes) old

-- the device after a step
abbrev pub after_step : BlockStep → Device → Device
after_step (Read k) d = record { held = d.held; seen = but_at d.seen k (d.held k) }
after_step (Whole k value) d = record { held = but_at d.held k value; seen = d.seen }
after_step (Merge k at bytes) d = record { held = but_at d.held k (merged (d.seen k) at bytes); seen = d.seen }

-- the device after steps, one after the other
abbrev pub after : List BlockStep → Device → Device
after [] d = d
after (step ∷ more) d = after more (after_step step d)

-- the values that the reads among the steps give, in order
abbrev pub reads : List BlockStep → Device → List (List ℕ)
reads [] d = []
reads (Read k ∷ more) d = d.held k ∷ reads more (after_step (Read k) d)
reads (Whole k value ∷ more) d = reads more (after_step (Whole k value) d)
reads (Merge k at bytes ∷ more) d = reads more (after_step (Merge k at bytes) d)

-- the device's byte at place p
unfoldable pub byte_at : ℕ → (ℕ → List ℕ) → ℕ → ℕ
byte_at size held p = slice_index (held (p / size)) (p % size)

-- the device's bytes of a range
abbrev pub bytes_of : ℕ → (ℕ → List ℕ) → ℕ → ℕ → List ℕ
bytes_of size held start len = map (byte_at size held) (range_with_len start len)

-- each of the blocks holds `size` bytes
abbrev pub AreBlocks : ℕ → ℕ → (ℕ → List ℕ) → Type 0
AreBlocks size blocks held = (k : ℕ) → k < blocks → length (held k) ≡ size

-- the new device has these bytes from start on, and each other byte of the old one
pub record IsWritten (size : ℕ) (old new : ℕ → List ℕ) (start : ℕ) (bytes : List ℕ) : Type 0 where
  pub inside : (i : ℕ) → i < length bytes → byte_at size new (start + i) ≡ slice_index bytes i
  pub outside : (p : ℕ) → (p < start) ⊎ (start + length bytes ≤ p) → byte_at size new p ≡ byte_at size old p
