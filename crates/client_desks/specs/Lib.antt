pub mod Desks
pub mod Later
pub mod Recording
