-- The head of a slot: 72 bytes.
use Rattle.std.specs.Prelude.{◌≡◌, ◌<◌, ◌^◌, length, ℕ, List, ◌++◌, take, drop, slice_range}
use Rattle.std.specs.Int.{w32, w64, to_be_bytes}
use Rattle.slot_disk.specs.Slots.{word_at, long_at}
use Rattle.sqlite_disk.specs.Digest.{digest}
pub use Rattle.slab_layout.specs.declared.head.Head.{Head}

-- what the check of a head covers: block, stamp, number, and the check of the data
abbrev pub covered : Head → List ℕ
covered h =
    to_be_bytes w32 h.block ++ to_be_bytes w64 h.stamp.time ++ to_be_bytes w32 h.stamp.client ++ h.stamp.verifier
    ++ to_be_bytes w64 h.number ++ to_be_bytes w64 h.data_check

-- the bytes of a head in a slab of this key
abbrev pub head_bytes : ℕ → Head → List ℕ
head_bytes key h = covered h ++ to_be_bytes w64 (digest key (covered h))

-- what a head's bytes tell
abbrev pub head_in : List ℕ → Head
head_in bytes = record {
  block = word_at bytes 0;
  stamp = record { time = long_at bytes 4; client = word_at bytes 12; verifier = slice_range bytes 16 48 };
  number = long_at bytes 48;
  data_check = long_at bytes 56;
}

-- the bytes fit their check
abbrev pub FitsCheck : ℕ → List ℕ → Type 0
FitsCheck key bytes = drop 64 bytes ≡ to_be_bytes w64 (digest key (take 64 bytes))

-- the numbers of a head have place in its bytes
pub record HasPlace (h : Head) : Type 0 where
  pub block : h.block < 2 ^ 32
  pub time : h.stamp.time < 2 ^ 64
  pub client : h.stamp.client < 2 ^ 32
  pub verifier : length h.stamp.verifier ≡ 32
  pub number : h.number < 2 ^ 64
  pub data_check : h.data_check < 2 ^ 64
