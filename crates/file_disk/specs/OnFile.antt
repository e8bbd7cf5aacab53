-- What a disk over a file is seen as, and what its calls leave.
use Rattle.std.specs.Prelude.{ℕ, Bool, true, false, List, [], ◌∷◌, ◌++◌, length}
use Rattle.outside_io.specs.Causes.{one_more}
use Rattle.disk_model.specs.Crash.{Pending, settled, with_range, overwritten}

-- The file, the bytes that a read gives, what a crash depends on, and what it depended on at each sync before, the greatest length, whether a write or a sync of the file has
-- failed, and how many calls have failed.
pub record OnFile (F : Type 0) : Type 0 where
  pub file : F
  pub bytes : List ℕ
  pub pending : Pending
  pub past : List Pending
  pub most : ℕ
  pub broken : Bool
  pub faults : ℕ

module _ {F : Type 0} where
  -- just opened, with these bytes
  abbrev pub opened : F → ℕ → List ℕ → OnFile F
  opened file most bytes = record { file = file; bytes = bytes; pending = settled bytes; past = []; most = most; broken = false; faults = 0 }

  -- a call was refused: the file was not touched
  abbrev pub refused : OnFile F → OnFile F
  refused d = record d { faults = one_more d.faults }

  -- the file is not trusted from now on
  abbrev pub broken_down : F → OnFile F → OnFile F
  broken_down file d = record d { file = file; broken = true; faults = one_more d.faults }

  -- a piece was written
  abbrev pub with_written : F → ℕ → List ℕ → OnFile F → OnFile F
  with_written file at piece d = record d { file = file; bytes = overwritten d.bytes at piece; pending = with_range at (length piece) d.pending }

  -- a write of so many bytes failed: a crash may leave some of them, and a read doesn't give them
  abbrev pub torn : F → ℕ → ℕ → OnFile F → OnFile F
  torn file at count d = record d { file = file; pending = with_range at count d.pending; broken = true; faults = one_more d.faults }

  -- all was synced
  abbrev pub all_synced : F → OnFile F → OnFile F
  all_synced file d = record d { file = file; pending = settled d.bytes; past = d.past ++ d.pending ∷ [] }
