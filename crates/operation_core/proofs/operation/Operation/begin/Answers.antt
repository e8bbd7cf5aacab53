use Rattle.std.proofs.Common.{arith}
use Rattle.operation_core.proofs.Keeping.{no_answer}
use Rattle.operation_core.proofs.operation.Operation.begin.Goals as goal
use Rattle.operation_core.proofs.operation.Operation.begin.Goals.{in-Read, in-Write}

pub invariant_of-operation : goal.invariant_of-operation
invariant_of-operation c =
    let none = rw c.n.ensures.is at c.in_ok-no_answers.ensures in
    elim c.match-op.branch [
      | in-Read w ↦ rw w.stage-is (no_answer c.args.config.now 1 1 _ c.n.ensures.valid (omega arith) tt c.in_ok-no_answers.field-0.items none)
      | in-Write w ↦ rw w.stage-is (no_answer c.args.config.now 1 0 _ c.n.ensures.valid (omega arith) tt c.in_ok-no_answers.field-0.items none)
    ]
