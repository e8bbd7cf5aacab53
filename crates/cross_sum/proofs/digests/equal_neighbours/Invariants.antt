use Rattle.std.proofs.Common.{◌≡◌, ◌≤◌, ◌<◌, ◌-◌, ℕ, [], length, get_or}
use Rattle.cross_sum.proofs.digests.equal_neighbours.Given as goal

abbrev pub invariant-equal : goal.invariant-equal
invariant-equal l = record {
  low : 1 ≤ l.count;
  high : l.count ≤ 4;
  within : l.count ≤ length l.strings;
  same : (i : ℕ) → i < l.count → length (get_or l.strings i []) ≡ length (get_or l.strings 0 []);
}

abbrev pub decreases-equal : goal.decreases-equal
decreases-equal l = 4 - l.count
