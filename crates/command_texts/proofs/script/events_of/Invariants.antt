use Rattle.std.specs.Vec.Iter.{into_iter_items, into_iter_len}
use Rattle.command_texts.proofs.Events.{AreMade}
use Rattle.command_texts.proofs.script.events_of.Given as goal

-- the events so far, and the lines that are left
abbrev pub invariant-loop-line : goal.invariant-loop-line
invariant-loop-line l = AreMade l.config l.fn.lines (into_iter_items l.line-iterator) (into_iter_len l.line-iterator) l.events
