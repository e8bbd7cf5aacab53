use Rattle.std.proofs.Common.{◌≡◌, take}
use Rattle.operation_core.proofs.answers.copied.Given as goal

abbrev pub invariant-loop-answer : goal.invariant-loop-answer
invariant-loop-answer l = l.copy.items ≡ take l.answer-index l.answer-items
