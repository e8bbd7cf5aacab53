-- What proofs of other crates may cite.
pub mod Additive
pub mod Basis
pub mod Blocks
pub mod Determined
pub mod FieldLaws
pub mod FragmentLaws
pub mod Lagrange
pub mod Sums
