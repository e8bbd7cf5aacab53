-- What proofs of other crates may cite.
pub mod Accepted
pub mod Clusters
pub mod Tables
pub mod Texts
pub mod Fine
pub mod Words
