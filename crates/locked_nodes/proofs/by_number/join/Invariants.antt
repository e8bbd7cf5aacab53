use Rattle.std.proofs.Common.{◌≡◌, ◌++◌, length}
use Rattle.std.specs.Vec.Iter.{into_iter_items, into_iter_len}
use Rattle.locked_nodes.specs.Joined.{join}
use Rattle.locked_nodes.proofs.by_number.join.Given as goal

-- what is put down, and then what is left of both
abbrev pub invariant-loop-entry : goal.invariant-loop-entry
invariant-loop-entry l =
    (into_iter_len l.entry-iterator ≡ length (into_iter_items l.entry-iterator))
    × (join l.fn.one l.fn.other ≡ l.es ++ join (into_iter_items l.entry-iterator) l.others.items)

abbrev pub invariant-loop-entry-2 : goal.invariant-loop-entry-2
invariant-loop-entry-2 l = join l.fn.one l.fn.other ≡ l.es ++ l.others.items

abbrev pub decreases-loop-entry-2 : goal.decreases-loop-entry-2
decreases-loop-entry-2 l = length l.others.items
