pub mod Doings
pub mod Files
pub mod Laws
pub mod Noted
pub mod Opened
pub mod Outcomes
