-- What proofs of other crates may cite.
pub mod Numbers
pub mod Values
pub mod Cuts
pub mod Spelled
pub mod Joined
