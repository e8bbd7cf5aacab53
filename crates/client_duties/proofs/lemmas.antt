-- What proofs of other crates may cite.
pub mod Sending
pub mod Given
