pub mod Captions
pub mod Columns
pub mod Outcomes
pub mod Short
