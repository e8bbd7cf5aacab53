use Rattle.std.proofs.Common.{length}
use Rattle.plan_text.specs.Reading.{BodyRead}
use Rattle.plan_text.proofs.plan.read_body.Given as goal

abbrev pub invariant-loop-rest : goal.invariant-loop-rest
invariant-loop-rest l = BodyRead l.fn.text l.plan l.seen l.rest l.number

abbrev pub decreases-loop-rest : goal.decreases-loop-rest
decreases-loop-rest l = length l.rest
