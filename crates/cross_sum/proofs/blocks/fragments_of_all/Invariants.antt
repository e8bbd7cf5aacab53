use Rattle.std.proofs.Common.{◌≡◌, take}
use Rattle.std.specs.List.{flat_map}
use Rattle.cross_sum.proofs.blocks.fragments_of_all.Given as goal

abbrev pub invariant-loop-shares : goal.invariant-loop-shares
invariant-loop-shares l = l.all.items ≡ flat_map (λ b. b) (take l.shares-index l.blocks)
