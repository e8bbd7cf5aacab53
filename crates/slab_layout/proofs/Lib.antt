mod Sizes
pub mod lemmas
