pub mod Nibbles
pub mod Powers
