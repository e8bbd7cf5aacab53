pub mod lemmas
pub mod Reading
pub mod Counting
pub mod Keeping
pub mod Taking
mod Accepting
mod LastWorlds
mod Records
mod Reports
mod Telling
