use Rattle.std.proofs.Common.{◌≡◌, map}
use Rattle.std.specs.List.{range_with_len}
use Rattle.client_duties.specs.Tasks.{ways_of}
use Rattle.client_duties.proofs.ways.ways_of.Given as goal

abbrev pub invariant-loop-node : goal.invariant-loop-node
invariant-loop-node l = l.ways ≡ map (ways_of l.rules l.client) (range_with_len 0 l.node)
