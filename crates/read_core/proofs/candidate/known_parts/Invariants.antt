use Rattle.std.specs.List.{AllByRecursion}
use Rattle.frag_check.specs.Known.{HasItsDigest}
use Rattle.read_core.proofs.candidate.known_parts.Given as goal

abbrev pub invariant-loop-i : goal.invariant-loop-i
invariant-loop-i l = AllByRecursion (HasItsDigest l.sum) l.parts.items
