-- What a call that only reads leaves as it was.
use Rattle.std.specs.Prelude.{◌≡◌, ℕ, Bool, List, IsTrue}
use Rattle.disk_model.specs.Crash.{LeavesOnly}

-- A file was only read: its bytes are the same, no sync failed, and a crash at any moment leaves what it could leave before.
pub record OnlyReads {F : Type 0} (seen : F → List ℕ) (may_leave : F → List ℕ → Type 0) (moment : F → ℕ) (left_since : F → ℕ → List ℕ → Type 0) (is_usable is_clean : F → Bool) (old new : F) : Type 0 where
  pub bytes : seen new ≡ seen old
  pub usable : IsTrue (is_usable new)
  pub clean : IsTrue (is_clean new) → IsTrue (is_clean old)
  pub crash : (c : List ℕ) → may_leave new c → may_leave old c
  pub any_moment : LeavesOnly moment left_since old new (may_leave old)
