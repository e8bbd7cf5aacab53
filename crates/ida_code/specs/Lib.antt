pub mod Lent
pub mod Points
pub mod Sums
