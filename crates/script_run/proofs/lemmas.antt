-- What proofs of other crates may cite.
pub mod Leading
pub mod Fitting
