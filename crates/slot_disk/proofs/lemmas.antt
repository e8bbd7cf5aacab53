-- What proofs of other crates may cite.
pub mod Bodies
pub mod Closing
pub mod Codec
pub mod Gates
pub mod Moments
