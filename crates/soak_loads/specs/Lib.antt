pub mod Soaks
pub mod Plain
pub mod Serial
pub mod Loads
pub mod MadePlans
pub mod Owners
