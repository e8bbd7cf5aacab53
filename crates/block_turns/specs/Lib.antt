pub mod Turns
pub mod Lives
pub mod Strings
pub mod Laws
pub mod Settled
pub mod Growing
pub mod AllBlocks
