-- The times that nodes tell.
use Rattle.std.specs.Prelude.{ℕ, List, Option, None, slice_index_or}
use Rattle.protocol.specs.Messages.{Reply}
use Rattle.protocol.specs.Operations.{time_of}

-- the time that node i has told, if it has told one
abbrev pub time_at : List (Option Reply) → ℕ → Option ℕ
time_at answers i = time_of (slice_index_or answers i None)
