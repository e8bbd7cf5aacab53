-- Which blocks of the device a request reads or writes.
use Rattle.std.specs.Prelude.{◌≡◌, ℕ, ◌+◌, ◌-◌, ◌*◌, ◌/◌, ◌<◌, ◌≤◌, ◌==◌, ◌&&◌, min, nat_lt, nat_le, Bool, if◌then◌else◌, List}
use Rattle.std.specs.List.{range_with_len}
use Rattle.std.specs.Int.{div_ceil}
use Rattle.quorum_rules.specs.Limits.{Numbers}
use Rattle.nbd_front.specs.declared.request.Request.{Request}
use Rattle.store_front.specs.Requests.{has_range, error_of}
use Rattle.store_front.specs.declared.blocks.Piece.{Piece}

-- the request reads or changes bytes, and is served
abbrev pub is_served : Numbers → Request → Bool
is_served c r = has_range r.kind && error_of (c.size * c.blocks) r == 0 && nat_lt 0 r.len

-- the first block that it touches, and the one after the last
abbrev pub first_of : Numbers → Request → ℕ
first_of c r = if is_served c r then r.offset / c.size else 0

abbrev pub end_of : Numbers → Request → ℕ
end_of c r = if is_served c r then div_ceil (r.offset + r.len) c.size else 0

-- the blocks that it touches, ascending
abbrev pub blocks_of : Numbers → Request → List ℕ
blocks_of c r = range_with_len (first_of c r) (end_of c r - first_of c r)

-- it touches block k
abbrev pub touches : Numbers → Request → ℕ → Bool
touches c r k = nat_le (first_of c r) k && nat_lt k (end_of c r)

-- a block that it touches
pub record Reaches (c : Numbers) (r : Request) (block : ℕ) : Type 0 where
  pub some : 0 < r.len
  pub below : block * c.size < r.offset + r.len
  pub above : r.offset < (block + 1) * c.size
  pub within : r.offset + r.len ≤ c.size * c.blocks
  pub there : block < c.blocks

-- its bytes of block k: from where to where they stand in the block, and among all of its bytes
abbrev pub piece_of : Numbers → Request → ℕ → Piece
piece_of c r k = record {
  at = r.offset - k * c.size;
  end = min (r.offset + r.len - k * c.size) c.size;
  from = k * c.size - r.offset;
  to = min ((k + 1) * c.size - r.offset) r.len;
}

-- some bytes of a block of this size, which are some of so many
pub record IsPiece (size len : ℕ) (piece : Piece) : Type 0 where
  pub some : piece.at < piece.end
  pub last : piece.end ≤ size
  pub order : piece.from < piece.to
  pub within : piece.to ≤ len
  pub same : piece.at + (piece.to - piece.from) ≡ piece.end
