pub mod Met
pub mod Pruned
pub mod Reads
pub mod Running
pub mod Opened
pub mod Meeting
pub mod Phases
