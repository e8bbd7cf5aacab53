use Rattle.std.proofs.Common.{◌≡◌, ◌++◌, length}
use Rattle.locked_nodes.specs.Joined.{lower, upper}
use Rattle.locked_nodes.proofs.by_number.move_lower.Given as goal

abbrev pub invariant-loop-next : goal.invariant-loop-next
invariant-loop-next l = record {
  moved : l.es ++ lower l.number l.others.items ≡ l.fn.es ++ lower l.number l.fn.others.items;
  left : upper l.number l.others.items ≡ upper l.number l.fn.others.items;
}

abbrev pub decreases-loop-next : goal.decreases-loop-next
decreases-loop-next l = length l.others.items
