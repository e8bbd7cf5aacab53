use Rattle.std.proofs.Common.{◌≡◌, ℕ, ◌<◌}
use Rattle.std.specs.Prelude.{slice_get}
use Rattle.std.specs.declared.option.Option.TheVariants.{Some}
use Rattle.locked_nodes.specs.declared.cell_shard.CellShard.{CellShard}
use Rattle.locked_nodes.specs.CellShards.{IsFor}
use Rattle.locked_nodes.proofs.cell_shard.place_of.Given as goal

-- none of the shards so far is for the block
abbrev pub invariant-loop-place : goal.invariant-loop-place
invariant-loop-place l = (k : ℕ) (s : CellShard) → k < l.place → slice_get l.cell_shards k ≡ Some s → IsFor s l.node l.block → ⊥
