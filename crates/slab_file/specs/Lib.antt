pub mod Faults
pub mod Moments
