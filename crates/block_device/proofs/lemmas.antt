-- What proofs of other crates may cite.
pub mod Touching
pub mod Merges
pub mod Reading
