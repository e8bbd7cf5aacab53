-- What proofs of other crates may cite.
pub mod SenderWords
pub mod Sending
