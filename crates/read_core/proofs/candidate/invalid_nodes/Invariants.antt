use Rattle.std.proofs.Common.{◌≡◌, ◌&&◌, not}
use Rattle.protocol.specs.Count.{collect, kept_where}
use Rattle.protocol.specs.Operations.{is_answered, is_there}
use Rattle.candidate_class.specs.Stamps.{stamp_at}
use Rattle.operation_core.specs.Counting.{answer_at}
use Rattle.read_core.proofs.candidate.invalid_nodes.Given as goal

abbrev pub invariant-loop-i : goal.invariant-loop-i
invariant-loop-i l = l.nodes ≡ collect l.i (λ i. kept_where (is_answered (answer_at l.answers i) && not (is_there (stamp_at l.stamps i))) i)
