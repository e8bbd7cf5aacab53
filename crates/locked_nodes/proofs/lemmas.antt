-- What proofs of other crates may cite.
pub mod Growing
pub mod Joining
pub mod Joins
pub mod Aside
pub mod Sides
pub mod Sending
