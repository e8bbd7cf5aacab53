-- What proofs of other crates may cite.
pub mod Phasing
pub mod Sending
pub mod Nodes
pub mod Cells
pub mod Sharded
pub mod Working
pub mod Ending
pub mod Pairing
pub mod Zipping
