-- Gates as they are opened: those between bodies with the bodies, the one in front of them by a write of one byte.
use Rattle.std.specs.Prelude.{◌≡◌, ℕ, zero, suc, ◌+◌, ◌*◌, ◌-◌, ◌<◌, ◌≤◌, List, slice_index}
use Rattle.disk_model.specs.Crash.{Pending, with_range}

-- what a crash depends on when so many of them, from a gate on, may have been written
abbrev pub gated : ℕ → ℕ → ℕ → Pending → Pending
gated body gate zero p = p
gated body gate (suc k) p = with_range (gate + k * (body + 1)) 1 (gated body gate k p)

-- the gates between so many bodies of a piece are open
abbrev pub AreOpenBetween : ℕ → ℕ → List ℕ → Type 0
AreOpenBetween body more piece = (k : ℕ) → 1 ≤ k → k < more → slice_index piece (k * (body + 1) - 1) ≡ 1

-- so many gates are open
abbrev pub AreOpen : ℕ → ℕ → ℕ → List ℕ → Type 0
AreOpen body gate more bytes = (k : ℕ) → k < more → slice_index bytes (gate + k * (body + 1)) ≡ 1
