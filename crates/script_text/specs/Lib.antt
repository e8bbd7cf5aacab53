pub mod Sum
pub mod Replays
pub mod Reading
