pub mod lemmas
mod Below
mod Keeping
mod Phases
mod Deciding
mod Operations
mod Splits
mod Values
mod Moments
mod Following
mod Arrays
mod Getting
mod Commands
