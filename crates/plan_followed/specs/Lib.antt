pub mod Asked
pub mod Clients
pub mod Nodes
pub mod Followed
pub mod Laws
pub mod Closed
pub mod Prunings
pub mod Tops
