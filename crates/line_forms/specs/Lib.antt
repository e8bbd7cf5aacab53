pub mod Numbers
pub mod Tables
pub mod Kinds
pub mod Texts
pub mod Heads
