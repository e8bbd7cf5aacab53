-- What proofs of other crates may cite.
pub mod Matching
pub mod Orders
pub mod Runs
