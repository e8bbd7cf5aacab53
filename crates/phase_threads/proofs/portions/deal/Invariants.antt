use Rattle.std.proofs.Common.{length}
use Rattle.phase_threads.proofs.Dealing.{AreDealtFrom}
use Rattle.phase_threads.proofs.portions.deal.Given as goal

abbrev pub invariant-loop-thing : goal.invariant-loop-thing
invariant-loop-thing g l = AreDealtFrom l.initial.portions.items l.initial.things l.portions.items l.things

abbrev pub decreases-loop-thing : goal.decreases-loop-thing
decreases-loop-thing g l = length l.things
