-- What some calls on a file do, whatever it held at first.
use Rattle.std.specs.Prelude.{◌≡◌, ℕ, IsTrue, List, length}
use Rattle.sqlite_disk.specs.Disk.{Torn, Follows}
use Rattle.sqlite_disk.specs.Events.{Event, replay}
use Rattle.slab_file.specs.Moments.{Elapses}
use Rattle.system_file.specs.Outcomes.{Leaves, LeftSince}

-- time goes on from the one record of calls to the other
abbrev pub GoesOn : List ℕ → List Event → List Event → Type 0
GoesOn start old new = Elapses length (LeftSince start) (Leaves start) old new

-- the file was only looked at
pub record LooksOnly (start : List ℕ) (old new : List Event) : Type 0 where
  pub seen : (replay start new).seen ≡ (replay start old).seen
  pub usable : (replay start new).is_usable ≡ (replay start old).is_usable
  pub clean : IsTrue (replay start new).is_honest → IsTrue (replay start old).is_honest
  pub left : (c : List ℕ) → Leaves start new c → Leaves start old c
  pub time : GoesOn start old new

-- n bytes were written at a place, or some of them
pub record WritesAt (at n : ℕ) (start : List ℕ) (old new : List Event) : Type 0 where
  pub seen : Torn at n (replay start old).seen (replay start new).seen
  pub usable : (replay start new).is_usable ≡ (replay start old).is_usable
  pub clean : (replay start new).is_honest ≡ (replay start old).is_honest
  pub left : Follows (Torn at n) (Leaves start old) (Leaves start new)
  pub time : GoesOn start old new

-- the file was made so long, if it was shorter and the call succeeded
pub record Lengthens (len : ℕ) (start : List ℕ) (old new : List Event) : Type 0 where
  pub seen : IsTrue (replay start new).is_honest → Torn len 0 (replay start old).seen (replay start new).seen
  pub usable : (replay start new).is_usable ≡ (replay start old).is_usable
  pub clean : IsTrue (replay start new).is_honest → IsTrue (replay start old).is_honest
  pub left : IsTrue (replay start new).is_honest → Follows (Torn len 0) (Leaves start old) (Leaves start new)
  pub time : GoesOn start old new
