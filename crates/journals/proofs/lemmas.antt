-- What proofs of other crates may cite.
pub mod Lists
pub mod Acting
pub mod Effects
pub mod Taking
pub mod Picks
pub mod Ordering
pub mod Projections
pub mod Law
pub mod Fitting
