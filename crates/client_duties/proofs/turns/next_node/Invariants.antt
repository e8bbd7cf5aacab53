use Rattle.std.proofs.Common.{◌≡◌, ℕ, ◌+◌, ◌%◌, ◌<◌, true}
use Rattle.protocol.specs.Seen.{has_answered}
use Rattle.client_desks.specs.Desks.{task_at}
use Rattle.client_duties.proofs.turns.next_node.Given as goal

abbrev pub invariant-loop-passed : goal.invariant-loop-passed
invariant-loop-passed l = (k : ℕ) → k < l.passed → has_answered (task_at l.desk) ((l.from + k) % l.nodes) ≡ true
