use Rattle.std.proofs.Common.{◌≡◌, ℕ, ◌<◌, slice_index, ◌*◌}
use Rattle.sha2.specs.Sha256.{word_at}
use Rattle.digest_lanes.specs.Lanes.{AreVectors, lane, message}
use Rattle.digest_lanes.proofs.compression.compress.Given as goal

abbrev pub invariant-load : goal.invariant-load
invariant-load l =
    AreVectors 16 l.w
    × ((j : ℕ) → j < 4 → (k : ℕ) → k < l.i → slice_index (lane l.w j) k ≡ word_at (message l.a l.b l.c l.d j) (4 * k))
