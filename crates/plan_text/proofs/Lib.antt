pub mod lemmas
pub mod Sets
pub mod Marked
pub mod Causes
pub mod Steps
pub mod Bodies
pub mod Fitting
