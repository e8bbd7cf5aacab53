pub mod Words
pub mod Causes
pub mod Lines
pub mod Statuses
pub mod Laws
