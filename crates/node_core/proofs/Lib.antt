pub mod lemmas
pub mod Listing
pub mod Finding
pub mod Last
pub mod Firsts
pub mod Undoing
