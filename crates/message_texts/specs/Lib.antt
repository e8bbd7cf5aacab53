pub mod Longest
pub mod Pieces
pub mod Refusals
pub mod Texts
pub mod Words
