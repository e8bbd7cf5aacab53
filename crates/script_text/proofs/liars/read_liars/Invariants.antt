use Rattle.std.proofs.Common.{length}
use Rattle.script_text.specs.Reading.{LiarsRead}
use Rattle.script_text.proofs.liars.read_liars.Given as goal

abbrev pub invariant-loop-line : goal.invariant-loop-line
invariant-loop-line l = LiarsRead l.fn.text l.config l.liars l.rest l.number

abbrev pub decreases-loop-line : goal.decreases-loop-line
decreases-loop-line l = length l.rest
