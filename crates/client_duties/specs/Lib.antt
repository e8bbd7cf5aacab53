pub mod Phases
pub mod Tasks
pub mod ClientDuty
