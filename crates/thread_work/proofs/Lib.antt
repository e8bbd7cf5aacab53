pub mod lemmas
mod Goings
