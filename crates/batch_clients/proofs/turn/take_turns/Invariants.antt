use Rattle.std.proofs.Common.{◌≡◌, ◌-◌, ◌<◌, ◌^◌, map, All, length}
use Rattle.std.specs.Vec.Iter.{into_iter_items, into_iter_len}
use Rattle.quorum_rules.specs.Limits.{Numbers}
use Rattle.batch_clients.specs.Parts.{turned, IsRun}
use Rattle.batch_clients.proofs.Turning.{AreTaken}
use Rattle.batch_clients.proofs.turn.take_turns.Given as goal

abbrev pub invariant-loop-run : goal.invariant-loop-run
invariant-loop-run l = record {
  taken : (c : Numbers) → All (IsRun c (2 ^ 64 - 2)) l.fn.runs.items → length l.fn.answers.items < 256 → AreTaken c l.fn.answers.items l.fn.runs.items (map turned l.answers.items) (into_iter_items l.run-iterator) l.turns.items;
  left : into_iter_len l.run-iterator ≡ length (into_iter_items l.run-iterator);
}
