-- What proofs of other crates may cite.
pub mod Accepting
pub mod Blocks
pub mod Changes
pub mod Refusals
pub mod Sending
