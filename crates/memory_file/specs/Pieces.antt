-- Bytes that a piece is put over, and bytes that are made more.
use Rattle.std.specs.Prelude.{ℕ, ◌-◌, min, List, ◌++◌, length, replicate}
use Rattle.disk_model.specs.Crash.{overwritten}

-- the bytes with a piece at a place, or at their end where the place lies behind it
abbrev pub put_piece : List ℕ → ℕ → List ℕ → List ℕ
put_piece bytes at piece = overwritten bytes (min at (length bytes)) piece

-- the bytes with zeros behind them, so that they are so many
abbrev pub lengthened : List ℕ → ℕ → List ℕ
lengthened bytes len = bytes ++ replicate (len - length bytes) 0
