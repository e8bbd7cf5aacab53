-- What proofs of other crates may cite.
pub mod Hearing
pub mod Storable
pub mod Executing
pub mod Alike
