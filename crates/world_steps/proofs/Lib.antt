pub mod LineEvents
pub mod Reached
pub mod SingleEvents
pub mod PossibleFaults
