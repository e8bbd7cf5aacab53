pub mod Tickets
pub mod Chits
pub mod Receipts
