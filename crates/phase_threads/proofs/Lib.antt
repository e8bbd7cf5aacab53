pub mod lemmas
mod Dealing
mod Carrying
mod Posting
mod Opening
mod Closing
mod Receipts
