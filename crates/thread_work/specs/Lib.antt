pub mod Pairwise
pub mod Starts
