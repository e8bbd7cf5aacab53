-- What proofs of other crates may cite.
pub mod Printed
pub mod Spelling
pub mod Fields
pub mod Unique
pub mod Digits
