pub mod Cells
pub mod Shards
pub mod Conduct
pub mod CellShards
pub mod Joined
