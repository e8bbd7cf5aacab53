-- What proofs of other crates may cite.
pub mod Crash
pub mod Past
