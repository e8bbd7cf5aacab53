use Rattle.std.proofs.Common.{◌≡◌, ℕ, ◌<◌}
use Rattle.sha2.specs.Sha256.{hash_after, initial_hash_256, padded_message}
use Rattle.digest_lanes.specs.Lanes.{AreVectors, lane, message}
use Rattle.digest_lanes.proofs.four.digest_four.Given as goal

abbrev pub invariant-whole : goal.invariant-whole
invariant-whole l =
    AreVectors 8 l.state
    × ((j : ℕ) → j < 4 → lane l.state j ≡ hash_after initial_hash_256 (padded_message (message l.a l.b l.c l.d j)) l.i)

abbrev pub invariant-padded : goal.invariant-padded
invariant-padded l =
    AreVectors 8 l.state
    × ((j : ℕ) → j < 4 → lane l.state j ≡ hash_after initial_hash_256 (padded_message (message l.a l.b l.c l.d j)) l.i)
