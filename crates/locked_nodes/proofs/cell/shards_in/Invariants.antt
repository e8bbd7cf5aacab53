use Rattle.std.proofs.Common.{◌≡◌, take}
use Rattle.locked_nodes.specs.CellShards.{cell_shards_of}
use Rattle.locked_nodes.proofs.cell.shards_in.Given as goal

-- the cells so far gave their shards
abbrev pub invariant-loop-cell : goal.invariant-loop-cell
invariant-loop-cell l = l.cell_shards.items ≡ cell_shards_of (take l.cell-index l.cells)
