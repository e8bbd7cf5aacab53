pub mod lemmas
mod Example
mod Listing
mod Raising
mod Seeing
pub mod Turns
pub mod Closing
