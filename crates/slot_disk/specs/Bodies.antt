-- Slots on a disk: a gate byte and a body of so many bytes each, one behind the other.
use Rattle.std.specs.Prelude.{◌≡◌, ◌≢◌, ℕ, zero, suc, ◌+◌, ◌*◌, ◌<◌, ◌≤◌, ◌==◌, nat_lt, ◌&&◌, if◌then◌else◌, List, [], ◌∷◌, ◌++◌, length, take, drop, slice_index, slice_range, slice_get, Some}

-- the bodies of the open slots, up to the first that isn't open: a slot is open where its gate byte is 1 and the disk has its
-- body and at least one byte more. So many bytes are skipped first
abbrev pub bodies_from : ℕ → ℕ → List ℕ → List (List ℕ)
bodies_from body skip [] = []
bodies_from body (suc skip) (b ∷ rest) = bodies_from body skip rest
bodies_from body zero (gate ∷ rest) = if gate == 1 && nat_lt body (length rest) then take body rest ∷ bodies_from body body rest else []

abbrev pub bodies : ℕ → List ℕ → List (List ℕ)
bodies body bytes = bodies_from body 0 bytes

-- there are so many open slots, and the gate behind them is on the disk and closed
pub record IsClosedAt (body : ℕ) (bytes : List ℕ) (count : ℕ) : Type 0 where
  pub counted : count ≡ length (bodies body bytes)
  pub there : count * (body + 1) < length bytes
  pub closed : slice_index bytes (count * (body + 1)) ≢ 1

-- the bodies of so many slots in a piece: a body and one byte more for each, one behind the other
abbrev pub bodies_in : ℕ → ℕ → List ℕ → List (List ℕ)
bodies_in body zero piece = []
bodies_in body (suc more) piece = take body piece ∷ bodies_in body more (drop (body + 1) piece)

-- the slots of these bytes are those, and behind them the first few of the new ones, none or all of them too
abbrev pub AreWithFirst : ℕ → List (List ℕ) → List (List ℕ) → List ℕ → Type 0
AreWithFirst body slots new bytes = (k : ℕ) × (k ≤ length new) × (bodies body bytes ≡ slots ++ take k new)

-- slot k, which begins at k slots' length, is open: its gate is 1, and the disk has all of it and one byte more
pub record IsOpen (body : ℕ) (bytes : List ℕ) (k : ℕ) : Type 0 where
  pub gate : slice_index bytes (k * (body + 1)) ≡ 1
  pub whole : (k + 1) * (body + 1) + 1 ≤ length bytes

-- The slots are those from slot 0 to before the first that isn't open, each behind its gate.
pub record AreInOrder (body : ℕ) (bytes : List ℕ) : Type 0 where
  pub each : (k : ℕ) → k < length (bodies body bytes) → IsOpen body bytes k
  pub first_shut : IsOpen body bytes (length (bodies body bytes)) → ⊥
  pub stands : (k : ℕ) → k < length (bodies body bytes) → slice_get (bodies body bytes) k ≡ Some (slice_range bytes (k * (body + 1) + 1) ((k + 1) * (body + 1)))
