pub mod Open
pub mod Lines
pub mod Records
pub mod Few
pub mod Shown
pub mod Steady
pub mod Told
