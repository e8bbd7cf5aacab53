-- What a read that is held against a check counts as a fault.
use Rattle.std.specs.Prelude.{◌≡◌, ◌≤◌, ℕ, Bool, false, IsTrue, Result, MatchResult}
use Rattle.sqlite_disk.specs.Disk.{MoreFaults}

-- The count stays where the bytes fit. It rises where the call fails though the bytes are there, and where bytes that are there and fit the check are answered by others.
abbrev pub CountsTest : {E : Type 0} → (is_there is_right : Type 0) → Result Bool E → ℕ → ℕ → Type 0
CountsTest is_there is_right result old new =
    MatchResult result
    (λ fits. (IsTrue fits → new ≡ old) × (fits ≡ false → is_there → is_right → MoreFaults old new) × (old ≤ new))
    (λ _. (is_there → MoreFaults old new) × (old ≤ new))
