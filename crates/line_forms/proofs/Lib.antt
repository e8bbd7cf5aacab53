pub mod lemmas
pub mod Heads
