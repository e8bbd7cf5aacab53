pub mod Held
pub mod Phases
pub mod Devices
pub mod Moments
pub mod Commands
pub mod Laws
