use Rattle.client_threads.proofs.Places.{ArePlacesTo}
use Rattle.client_threads.proofs.pruning.places_of.Given as goal

-- the shards so far have their places
abbrev pub invariant-loop-shard : goal.invariant-loop-shard
invariant-loop-shard l = ArePlacesTo l.cell_shards l.node l.places.items l.shard
