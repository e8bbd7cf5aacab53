mod Answering
mod Crash
mod Entries
mod Order
mod Overs
mod Rewriting
mod Rules
mod Torn
pub mod lemmas
