pub mod Mail
pub mod Asking
pub mod Transports
pub mod Endpoint
