use Rattle.std.proofs.Common.{◌≡◌, ℕ, ◌+◌, ◌<◌, ◌≤◌, length, slice_index_or}
use Rattle.std.specs.Fork.{ChangesAt}
use Rattle.thread_spread.proofs.spread.in_turn.Given as goal

abbrev pub invariant-loop-k : goal.invariant-loop-k
invariant-loop-k g l = record {
  len : length l.s ≡ length l.initial.s;
  ahead : (j : ℕ) (d : g.row.T.Denot) → l.k ≤ j → slice_index_or l.s j d ≡ slice_index_or l.initial.s j d;
  done : (j : ℕ) (d : g.row.T.Denot) → j < l.k → ChangesAt g.F.Fn l.f (l.base + j) (slice_index_or l.initial.s j d) (slice_index_or l.s j d);
}
