-- What the system answers to the calls of a disk over a file.
use Rattle.std.specs.Prelude.{ℕ, Bool, List, Option}
use Rattle.file_disk.specs.declared.standing.Standing.{Standing}

-- to a call on an open file
pub data FileAnswer : Type 0 where
  -- the file is locked by this handle, or by another one
  Locks : Bool → FileAnswer
  -- it has so many bytes, or is no plain file
  Measures : Option ℕ → FileAnswer
  -- it has no bytes any more
  Empties : FileAnswer
  -- what was written is safe
  Settles : FileAnswer
  -- a read of the whole file gave these bytes
  Reads : List ℕ → FileAnswer
  CallFails : FileAnswer

-- to a call on a path
pub data SystemAnswer (F : Type 0) : Type 0 where
  Stands : List ℕ → Standing → SystemAnswer F
  -- the file that was there was opened at the path, or none was there; none was made
  Finds : List ℕ → Option F → SystemAnswer F
  -- the file was opened at the path, and made if nothing stood there
  Opens : List ℕ → F → SystemAnswer F
  -- the path leads to the file, or doesn't
  Leads : List ℕ → F → Bool → SystemAnswer F
  -- what was made, renamed or removed in the folder of the path is safe
  SyncsFolder : List ℕ → SystemAnswer F
  -- the file was renamed from the first path to the second
  Renames : F → List ℕ → List ℕ → SystemAnswer F
  PathFails : SystemAnswer F
