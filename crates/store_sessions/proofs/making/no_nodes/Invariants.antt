use Rattle.std.proofs.Common.{◌≡◌, replicate, None}
use Rattle.store_sessions.proofs.making.no_nodes.Given as goal

-- no node for each seat so far
abbrev pub invariant-loop-seat : goal.invariant-loop-seat
invariant-loop-seat g l = l.nodes.items ≡ replicate l._seat None
