use Rattle.std.proofs.Common.{◌≡◌, ◌≤◌, ◌+◌, length, vec_capacity}
use Rattle.std.specs.Io.KnownBytes.{Consumes}
use Rattle.outside_io.specs.declared.reading.TheConstants.{LIMIT}
use Rattle.outside_io.proofs.reading.read_all.Given as goal

abbrev pub invariant-loop : goal.invariant-loop
invariant-loop g l =
    Consumes (g.S.Source.left l.initial.source) (g.S.Source.left l.source) l.input.items
    × (g.S.Source.faults l.source ≡ g.S.Source.faults l.initial.source)
    × (l.counter ≤ length l.input.items)
    × (length l.input.items ≤ LIMIT)
    × (LIMIT + 1 ≤ vec_capacity l.input)
