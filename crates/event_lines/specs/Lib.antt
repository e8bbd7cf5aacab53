pub mod Messages
pub mod Words
pub mod Forms
pub mod Lines
pub mod Rests
