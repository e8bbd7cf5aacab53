pub mod Classes
pub mod Names
pub mod Shapes
pub mod Texts
pub mod Words
pub mod Titles
pub mod Documents
