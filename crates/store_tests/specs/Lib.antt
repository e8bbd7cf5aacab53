pub mod Counted
pub mod Drawn
