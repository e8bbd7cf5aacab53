use Rattle.std.proofs.Common.{◌≡◌, ◌≤◌, ◌-◌, length, take}
use Rattle.std.specs.Io.KnownBytes.{Consumes}
use Rattle.exact_input.proofs.filling.fill.Given as goal

abbrev pub invariant-loop-count : goal.invariant-loop-count
invariant-loop-count g l =
    Consumes (g.S.Source.left l.initial.source) (g.S.Source.left l.source) (take l.count l.room)
    × (g.S.Source.faults l.source ≡ g.S.Source.faults l.initial.source)
    × (l.count ≤ length l.room)
    × (length l.room ≡ length l.initial.room)

abbrev pub decreases-loop-count : goal.decreases-loop-count
decreases-loop-count g l = length l.initial.room - l.count
