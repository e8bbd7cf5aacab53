pub mod Bodies
pub mod Gates
pub mod Slots
