pub mod Accepted
pub mod Given
pub mod WellFormed
mod Doing
mod Called
mod Legal
mod Sessions
mod RunsOfPlans
mod Tracing
