pub mod Firsts
pub mod Liars
pub mod Ops
