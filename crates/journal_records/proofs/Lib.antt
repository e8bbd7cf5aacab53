pub mod lemmas
mod SameMessages
mod Counting
pub mod LastDesks
pub mod Owning
pub mod Starts
pub mod Together
mod Operations
mod Crashes
mod Places
mod Completing
mod Turns
mod LastWorld
mod Late
mod Short
mod ToldLines
mod Totals
mod Rounds
mod FewRecords
