pub mod lemmas
pub mod Keeping
