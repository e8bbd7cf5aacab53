use Rattle.std.proofs.Common.{◌≡◌, ℕ, ◌<◌, ◌≤◌, length, slice_index_or}
use Rattle.batch_clients.specs.declared.turn.Turn.{Turn}
use Rattle.batch_clients.specs.Turns.{Comes}
use Rattle.batch_clients.proofs.part.take_each.Given as goal

abbrev pub invariant-loop-k : goal.invariant-loop-k
invariant-loop-k l = record {
  len : length l.turns ≡ length l.initial.turns;
  ahead : (j : ℕ) (d : Turn) → l.k ≤ j → slice_index_or l.turns j d ≡ slice_index_or l.initial.turns j d;
  done : (j : ℕ) (d : Turn) → j < l.k → Comes (slice_index_or l.initial.turns j d) (slice_index_or l.turns j d);
}
