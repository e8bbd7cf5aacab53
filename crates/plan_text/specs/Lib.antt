pub mod Marks
pub mod Plans
pub mod Sets
pub mod Reading
