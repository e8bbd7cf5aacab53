pub mod lemmas
pub mod Unknown
pub mod Crashes
pub mod Lies
pub mod Meaning
pub mod Whole
