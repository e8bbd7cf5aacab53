-- What proofs of other crates may cite.
pub mod ReadCalls
