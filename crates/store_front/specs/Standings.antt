-- What stands at the front of the input at hand.
use Rattle.std.specs.Prelude.{◌≡◌, ◌≢◌, ℕ, ◌+◌, ◌≤◌, List, length}
use Rattle.nbd_front.specs.Requests.{request_magic, magic_of, head_len, request_of, data_len}
use Rattle.nbd_front.specs.Sessions.{leave_kind, IsPart}
use Rattle.store_front.specs.declared.standing.Standing.{Standing}
use Rattle.store_front.specs.declared.standing.Standing.TheVariants.{Part, Wrong, Leave, Whole}

-- what these bytes begin with
abbrev pub IsStanding : Standing → List ℕ → Type 0
IsStanding Part bytes = IsPart bytes
IsStanding Wrong bytes = (4 ≤ length bytes) × (magic_of bytes ≢ request_magic)
IsStanding Leave bytes = (head_len ≤ length bytes) × (magic_of bytes ≡ request_magic) × ((request_of bytes).kind ≡ leave_kind)
IsStanding (Whole r) bytes = (head_len + data_len r ≤ length bytes) × (magic_of bytes ≡ request_magic) × (r ≡ request_of bytes) × (r.kind ≢ leave_kind)
