-- Which blocks of which node a cell serves, and whether several cells serve all.
use Rattle.std.specs.Prelude.{◌≡◌, ℕ, ◌<◌, ◌%◌, List, map, slice_get}
use Rattle.std.specs.declared.option.Option.TheVariants.{Some}
use Rattle.locked_nodes.specs.declared.charter.Charter.{Charter}
use Rattle.locked_nodes.specs.declared.cell_shard.CellShard.{CellShard}
use Rattle.locked_nodes.specs.Cells.{CellView}

-- the shard's cell serves this block of this node
pub record IsFor (s : CellShard) (node block : ℕ) : Type 0 where
  pub of : s.node ≡ node
  pub share : block % s.shards ≡ s.shard

abbrev pub cell_shard_of : Charter → CellShard
cell_shard_of c = record { node = c.number; shard = c.shard; shards = c.shards }

abbrev pub cell_shards_of : List CellView → List CellShard
cell_shards_of cells = map (λ c. cell_shard_of c.charter) cells

-- the shard at this place is for this block of this node
pub record IsPlace (cell_shards : List CellShard) (place node block : ℕ) : Type 0 where
  pub cell_shard : CellShard
  pub there : slice_get cell_shards place ≡ Some cell_shard
  pub is : IsFor cell_shard node block

-- each block of so many nodes has a place
abbrev pub Cover : ℕ → List CellShard → Type 0
Cover nodes cell_shards = (node block : ℕ) → node < nodes → (place : ℕ) × IsPlace cell_shards place node block

-- the node stands in one cell
abbrev pub IsWholeAt : List CellShard → ℕ → Type 0
IsWholeAt cell_shards node = (place : ℕ) (s : CellShard) → slice_get cell_shards place ≡ Some s → s.node ≡ node → s.shards ≡ 1
