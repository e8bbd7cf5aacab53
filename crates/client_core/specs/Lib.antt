pub mod Works
pub mod Clients
