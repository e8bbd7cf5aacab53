pub mod Opened
pub mod Reading
