pub mod lemmas
pub mod Sums
pub mod Declarations
pub mod Causes
pub mod Steps
pub mod Printed
