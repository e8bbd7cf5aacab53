-- What proofs of other crates may cite.
pub mod Compared
pub mod Reaching
pub mod Nodes
