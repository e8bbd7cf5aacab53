mod Hearing
mod Dealing
mod Taking
mod Adding
mod Turning
mod Handing
mod Sharing
pub mod Batches
