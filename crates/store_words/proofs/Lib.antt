pub mod Spelled
pub mod Exact
pub mod Told
