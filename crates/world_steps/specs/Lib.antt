pub mod Reached
pub mod Steps
pub mod Actors
pub mod Events
pub mod Faults
