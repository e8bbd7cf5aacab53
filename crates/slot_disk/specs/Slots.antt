-- What the body of a slot tells.
use Rattle.std.specs.Prelude.{ℕ, zero, suc, ◌+◌, ◌*◌, ◌≡◌, ◌<◌, ◌^◌, List, [], ◌∷◌, ◌++◌, length, take, drop, slice_index, slice_range, replicate}
use Rattle.std.specs.Int.{w32, w64, to_be_bytes, from_be_bytes}
use Rattle.quorum_rules.specs.Limits.{Numbers, share_of}
use Rattle.stamp_order.specs.declared.Stamp.{Stamp}
use Rattle.protocol.specs.Messages.{Version, flat, AreDigests}

-- a slot tells an accepted version of a block (kind 0), or that the block was pruned by the version's stamp (kind 1)
pub record Slot : Type 0 where
  pub kind : ℕ
  pub block : ℕ
  pub version : Version

-- the version of this stamp, cross checksum and fragment
abbrev pub version_of : Stamp → List (List ℕ) → List ℕ → Version
version_of stamp sum fragment = record { stamp = stamp; sum = sum; fragment = fragment }

-- the slot of an accepted version
abbrev pub version_slot : ℕ → Version → Slot
version_slot block version = record { kind = 0; block = block; version = version }

-- the slot of a prune: its cross checksum and its fragment are zero bytes
abbrev pub prune_slot : Numbers → ℕ → Stamp → Slot
prune_slot c block stamp = record { kind = 1; block = block; version = record { stamp = stamp; sum = replicate c.n (replicate 32 0); fragment = replicate (share_of c) 0 } }

-- how many bytes a body has: its kind, its block, time and client, a verifier, a digest for each node, and a fragment
abbrev pub body_len : Numbers → ℕ
body_len c = 49 + 32 * c.n + share_of c

-- the number of 4 bytes from a place on, the high byte first
abbrev pub word_at : List ℕ → ℕ → ℕ
word_at bytes at = from_be_bytes w32 (slice_range bytes at (at + 4))

-- the number of 8 bytes
abbrev pub long_at : List ℕ → ℕ → ℕ
long_at bytes at = from_be_bytes w64 (slice_range bytes at (at + 8))

-- so many digests of 32 bytes
abbrev pub digests : ℕ → List ℕ → List (List ℕ)
digests zero bytes = []
digests (suc k) bytes = take 32 bytes ∷ digests k (drop 32 bytes)

-- the stamp in a body
abbrev pub stamp_in : List ℕ → Stamp
stamp_in body = record { time = long_at body 5; client = word_at body 13; verifier = slice_range body 17 49 }

-- what a body tells, in a cluster of n nodes
abbrev pub slot_of : ℕ → List ℕ → Slot
slot_of n body = record {
  kind = slice_index body 0;
  block = word_at body 1;
  version = record { stamp = stamp_in body; sum = digests n (drop 49 body); fragment = drop (49 + 32 * n) body };
}

-- the first bytes of a body: its kind, its block, and a stamp
abbrev pub head_of : ℕ → ℕ → Stamp → List ℕ
head_of kind block stamp = (kind ∷ []) ++ to_be_bytes w32 block ++ to_be_bytes w64 stamp.time ++ to_be_bytes w32 stamp.client ++ stamp.verifier

-- the body that tells this
abbrev pub body_of : Slot → List ℕ
body_of s = head_of s.kind s.block s.version.stamp ++ flat s.version.sum ++ s.version.fragment

-- the numbers of a slot have place in a body of this cluster
pub record Fits (c : Numbers) (s : Slot) : Type 0 where
  pub block : s.block < 2 ^ 32
  pub time : s.version.stamp.time < 2 ^ 64
  pub client : s.version.stamp.client < 2 ^ 32
  pub verifier : length s.version.stamp.verifier ≡ 32
  pub count : length s.version.sum ≡ c.n
  pub digests : AreDigests s.version.sum
  pub share : length s.version.fragment ≡ share_of c

-- the bytes are the body of this slot and one byte 0
abbrev pub IsPieceOf : Slot → List ℕ → Type 0
IsPieceOf s piece = piece ≡ body_of s ++ 0 ∷ []

-- the bodies of these slots, and one byte 0 behind each
abbrev pub pieces_of : List Slot → List ℕ
pieces_of [] = []
pieces_of (s ∷ slots) = (body_of s ++ 0 ∷ []) ++ pieces_of slots
