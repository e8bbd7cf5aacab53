use Rattle.std.proofs.Common.{◌≡◌, ◌≤◌, ◌-◌, length}
use Rattle.std.specs.Io.KnownBytes.{Consumes}
use Rattle.nbd_front.proofs.filling.take_bytes.Given as goal

abbrev pub invariant-loop-room : goal.invariant-loop-room
invariant-loop-room g l =
    Consumes (g.S.Source.left l.initial.source) (g.S.Source.left l.source) l.taken.items
    × (g.S.Source.faults l.source ≡ g.S.Source.faults l.initial.source)
    × (length l.taken.items ≤ l.len)

abbrev pub decreases-loop-room : goal.decreases-loop-room
decreases-loop-room g l = l.len - length l.taken.items
