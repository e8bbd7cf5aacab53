pub mod Linear
pub mod Durable
pub mod Of
pub mod Meaning
pub mod Laws
