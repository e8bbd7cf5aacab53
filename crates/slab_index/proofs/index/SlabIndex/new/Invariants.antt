use Rattle.std.proofs.Common.{◌≡◌, [], replicate}
use Rattle.slab_index.proofs.index.SlabIndex.new.Given as goal

abbrev pub invariant-loop : goal.invariant-loop
invariant-loop l = l.list.items ≡ replicate l.counter []
