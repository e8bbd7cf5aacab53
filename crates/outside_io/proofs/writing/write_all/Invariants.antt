use Rattle.std.proofs.Common.{◌≡◌, ◌≤◌, ◌-◌, length, take}
use Rattle.outside_io.specs.Written.{Adds}
use Rattle.outside_io.proofs.writing.write_all.Given as goal

abbrev pub invariant-loop-at : goal.invariant-loop-at
invariant-loop-at g l =
    Adds (g.K.Sink.taken l.initial.sink) (g.K.Sink.taken l.sink) (take l.at l.text)
    × (g.K.Sink.faults l.sink ≡ g.K.Sink.faults l.initial.sink)
    × (l.at ≤ length l.text)
    × (g.K.Sink.flushed l.sink ≡ g.K.Sink.flushed l.initial.sink)

abbrev pub decreases-loop-at : goal.decreases-loop-at
decreases-loop-at g l = length l.text - l.at
