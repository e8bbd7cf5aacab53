-- What proofs of other crates may cite.
pub mod Counts
pub mod PhaseEnds
