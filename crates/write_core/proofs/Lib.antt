pub mod Saying
pub mod Drawing
