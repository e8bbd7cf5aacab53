use Rattle.std.proofs.Common.{◌≡◌, ◌≤◌, None}
use Rattle.std.specs.Prelude.{slice_index_or, nat_le}
use Rattle.protocol.specs.Reach.{reach}
use Rattle.protocol.specs.Operations.{time_of}
use Rattle.write_core.proofs.times.reached.Given as goal

abbrev pub invariant-loop-answer : goal.invariant-loop-answer
invariant-loop-answer l = record { counted : l.sum ≡ reach nat_le l.answer-index (λ i. time_of (slice_index_or l.answers i None)) l.time; few : l.sum ≤ l.answer-index }
