pub mod lemmas
pub mod Cited
pub mod Frames
pub mod Answering
pub mod Telling
pub mod Pruning
pub mod Induction
pub mod Doing
pub mod Phasing
mod Example
