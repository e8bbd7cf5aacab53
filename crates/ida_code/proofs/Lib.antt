pub mod Cut
pub mod Lending
pub mod Summed
pub mod Weights
pub mod Whole
