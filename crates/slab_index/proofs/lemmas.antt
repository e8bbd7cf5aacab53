-- What proofs of other crates may cite.
pub mod Changing
pub mod Holding
pub mod Telling
