pub mod Causes
pub mod Given
pub mod Memory
pub mod Written
