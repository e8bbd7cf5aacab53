-- The data of a slot: the digests of all fragments, and one fragment.
use Rattle.std.specs.Prelude.{◌≡◌, ◌==◌, ℕ, ◌+◌, ◌*◌, Bool, List, ◌++◌, length, drop}
use Rattle.stamp_order.specs.declared.Stamp.{Stamp}
use Rattle.protocol.specs.Messages.{Version, flat, AreDigests}
use Rattle.slot_disk.specs.Slots.{digests, version_of}
use Rattle.sqlite_disk.specs.Digest.{digest}
use Rattle.slab_layout.specs.Heads.{Head}

-- the bytes of a version
abbrev pub data_of : Version → List ℕ
data_of v = flat v.sum ++ v.fragment

-- the version of this stamp that the bytes tell, in a cluster of so many nodes
abbrev pub version_in : ℕ → Stamp → List ℕ → Version
version_in nodes stamp bytes = version_of stamp (digests nodes bytes) (drop (32 * nodes) bytes)

-- the bytes fit the check in their head
abbrev pub data_fit : ℕ → Head → List ℕ → Bool
data_fit key h bytes = digest key bytes == h.data_check

-- the version has a digest for each of so many nodes
pub record HasDigests (nodes : ℕ) (v : Version) : Type 0 where
  pub count : length v.sum ≡ nodes
  pub digests : AreDigests v.sum
