pub mod Rounds
pub mod Candidates
pub mod Ends
pub mod Readers
