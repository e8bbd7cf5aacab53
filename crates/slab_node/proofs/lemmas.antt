-- What proofs of other crates may cite.
pub mod Batching
pub mod Changing
pub mod Freeing
pub mod Node
