pub mod Ranges
pub mod Steps
pub mod Device
pub mod Refusals
pub mod Pieces
pub mod Ops
pub mod Latest
