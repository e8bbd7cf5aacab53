-- The bytes of a range that one block has.
use Rattle.std.specs.Prelude.{◌≡◌, ℕ, ◌+◌, ◌-◌, ◌*◌, ◌<◌, ◌≤◌, min}
use Rattle.block_device.specs.declared.pieces.Piece.{Piece}

-- those that block k has of the len bytes from start on: from where to where they stand in the block, and among all of them
abbrev pub piece_in : ℕ → ℕ → ℕ → ℕ → Piece
piece_in size start len k = record {
  at = start - k * size;
  end = min (start + len - k * size) size;
  from = k * size - start;
  to = min ((k + 1) * size - start) len;
}

-- some bytes of a block of this size, which are some of so many
pub record IsPiece (size len : ℕ) (piece : Piece) : Type 0 where
  pub some : piece.at < piece.end
  pub last : piece.end ≤ size
  pub order : piece.from < piece.to
  pub within : piece.to ≤ len
  pub same : piece.at + (piece.to - piece.from) ≡ piece.end
