pub mod Kinds
pub mod Books
pub mod Numbers
pub mod Orders
pub mod Tellings
pub mod Drafts
