-- What proofs of other crates may cite.
pub mod Mailing
pub mod Sending
pub mod Heads
