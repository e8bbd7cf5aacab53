use Rattle.std.proofs.Common.{◌≡◌, ◌≤◌, ◌<◌, ℕ, length, None}
use Rattle.protocol.specs.Instance.{setting}
use Rattle.protocol.specs.Operations.{stamps}
use Rattle.candidate_class.specs.Stamps.{stamp_at}
use Rattle.operation_core.specs.Counting.{answer_at}
use Rattle.read_core.proofs.round.stamps_of.Given as goal

abbrev pub invariant-loop-i : goal.invariant-loop-i
invariant-loop-i l = record {
  size : length l.stamps ≡ 16;
  known : (k : ℕ) → k < l.i → stamp_at l.stamps k ≡ stamps (setting l.config) (answer_at l.answers) l.bound k;
  none : (k : ℕ) → l.i ≤ k → stamp_at l.stamps k ≡ None;
}
