-- What proofs of other crates may cite.
pub mod Texts
pub mod Accepted
pub mod Unique
