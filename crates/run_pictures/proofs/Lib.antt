pub mod Refusing
pub mod Depicting
