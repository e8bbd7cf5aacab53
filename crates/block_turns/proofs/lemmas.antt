-- What proofs of other crates may cite.
pub mod TurnNumbers
pub mod TurnsTold
pub mod EachSetting
