pub mod Stages
pub mod Mails
pub mod Counting
pub mod Clients
