pub mod Times
pub mod Writers
pub mod Made
