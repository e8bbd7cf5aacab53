-- What proofs of other crates may cite.
pub mod Members
pub mod Tests
pub mod Orders
