pub mod lemmas
pub mod WordForms
pub mod Replaying
mod Ascending
mod Events
mod Formed
mod Loads
mod NbdForms
pub mod OneReport
mod Running
mod Told
pub mod Unspent
