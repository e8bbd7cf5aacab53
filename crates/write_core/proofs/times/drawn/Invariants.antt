use Rattle.std.proofs.Common.{◌≡◌, None, length}
use Rattle.std.specs.Prelude.{slice_index_or, nat_le}
use Rattle.protocol.specs.Reach.{greatest, if_reached}
use Rattle.protocol.specs.Operations.{time_of, time_or_zero}
use Rattle.write_core.proofs.times.drawn.Given as goal

abbrev pub invariant-loop-answer : goal.invariant-loop-answer
invariant-loop-answer l =
    l.drawn ≡ time_or_zero (greatest nat_le l.answer-index (λ i. if_reached nat_le (length l.answers) (λ j. time_of (slice_index_or l.answers j None)) l.needed (time_of (slice_index_or l.answers i None))))
