-- What was read where a request would begin.
use Rattle.std.specs.Prelude.{◌≡◌, ◌≢◌, ℕ, ◌<◌, ◌≤◌, List, [], length, Option}
use Rattle.std.specs.Io.KnownBytes.{Consumes, IsAtEnd}
use Rattle.nbd_front.specs.declared.arrival.Arrival.{Arrival}
use Rattle.nbd_front.specs.declared.arrival.Arrival.TheVariants as arrivals
use Rattle.nbd_front.specs.Requests.{request_of, request_magic, magic_of, head_len}

-- these bytes, after which these are left, are what arrived
abbrev pub IsArrival : Arrival → List ℕ → Option (List ℕ) → Type 0
IsArrival arrivals.Nothing bytes left = (bytes ≡ []) × IsAtEnd left
IsArrival arrivals.Wrong bytes left = (length bytes ≡ 4) × (magic_of bytes ≢ request_magic)
IsArrival arrivals.Cut bytes left = (0 < length bytes) × (length bytes < head_len) × (4 ≤ length bytes → magic_of bytes ≡ request_magic) × IsAtEnd left
IsArrival (arrivals.Head r) bytes left = (length bytes ≡ head_len) × (magic_of bytes ≡ request_magic) × (r ≡ request_of bytes)

-- the source gave bytes that are what arrived
abbrev pub HasArrived : Option (List ℕ) → Option (List ℕ) → Arrival → Type 0
HasArrived old new arrival = (bytes : List ℕ) × Consumes old new bytes × IsArrival arrival bytes new

-- the source gave at most so many bytes, and fewer only to its end
abbrev pub GaveUpTo : ℕ → Option (List ℕ) → Option (List ℕ) → List ℕ → Type 0
GaveUpTo most old new bytes = Consumes old new bytes × (length bytes ≤ most) × (length bytes < most → IsAtEnd new)

-- the source gave fewer bytes than so many
abbrev pub GaveFewer : ℕ → Option (List ℕ) → Option (List ℕ) → Type 0
GaveFewer most old new = (bytes : List ℕ) × Consumes old new bytes × (length bytes < most)

-- the source gave a part of a request, its data aside, or nothing
abbrev pub HasBegun : Option (List ℕ) → Option (List ℕ) → Type 0
HasBegun old new = (bytes : List ℕ) × Consumes old new bytes × (length bytes < head_len) × (4 ≤ length bytes → magic_of bytes ≡ request_magic)
