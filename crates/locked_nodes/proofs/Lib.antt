pub mod lemmas
pub mod Acting
pub mod Causes
pub mod Keeping
pub mod Sharding
pub mod Conducting
