-- What proofs of other crates may cite.
pub mod SumLaws
pub mod Ascending
pub mod ReplayLaws
