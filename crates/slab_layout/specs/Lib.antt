pub mod Data
pub mod Headers
pub mod Heads
pub mod Shapes
