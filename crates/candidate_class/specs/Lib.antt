pub mod Answers
pub mod Stamps
