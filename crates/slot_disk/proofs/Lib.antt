pub mod lemmas
pub mod Adding
pub mod Between
pub mod Order
pub mod Rows
pub mod Torn
