pub mod Pieces
pub mod Recording
