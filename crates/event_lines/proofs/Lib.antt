pub mod lemmas
pub mod Events
pub mod Messages
pub mod Parts
pub mod Words
