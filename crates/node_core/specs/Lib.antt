pub mod Index
pub mod Lent
pub mod Past
pub mod Seen
