-- What proofs of other crates may cite.
pub mod PrintedReports
pub mod Reported
pub mod Judged
