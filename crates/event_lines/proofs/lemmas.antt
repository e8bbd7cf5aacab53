-- What proofs of other crates may cite.
pub mod Accepted
pub mod Lacking
pub mod Lines
pub mod Unique
