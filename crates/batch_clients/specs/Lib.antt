pub mod Batches
pub mod Parts
pub mod Turns
pub mod Encoding
pub mod Sharing
