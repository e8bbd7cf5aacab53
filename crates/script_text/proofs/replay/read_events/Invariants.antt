use Rattle.std.proofs.Common.{length}
use Rattle.script_text.specs.Reading.{EventsRead}
use Rattle.script_text.proofs.replay.read_events.Given as goal

abbrev pub invariant-loop-rest : goal.invariant-loop-rest
invariant-loop-rest l = EventsRead l.fn.text l.config l.fn.front.liars l.lines l.rest l.number

abbrev pub decreases-loop-rest : goal.decreases-loop-rest
decreases-loop-rest l = length l.rest
