pub mod Numbers
pub mod Options
pub mod Replies
pub mod Steps
pub mod Handshakes
