pub mod lemmas
pub mod Records
mod Lasting
