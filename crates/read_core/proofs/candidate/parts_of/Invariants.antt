use Rattle.std.proofs.Common.{◌≡◌, map, take}
use Rattle.protocol.specs.Count.{collect}
use Rattle.protocol.specs.Operations.{part_of}
use Rattle.read_core.specs.Candidates.{carrier, shown_parts}
use Rattle.read_core.proofs.candidate.parts_of.Given as goal

abbrev pub invariant-loop-i : goal.invariant-loop-i
invariant-loop-i l = shown_parts l.parts.items ≡ map part_of (take l.m (collect l.i (carrier l.answers l.stamps l.stamp)))
