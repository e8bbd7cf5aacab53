-- What proofs of other crates may cite.
pub mod Plans
pub mod Phases
pub mod Entries
pub mod Later
