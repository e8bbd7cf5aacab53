pub mod Counts
pub mod Lists
pub mod Seats
pub mod Steps
pub mod Receipts
