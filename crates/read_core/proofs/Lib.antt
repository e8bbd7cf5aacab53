pub mod Counts
pub mod Gathering
pub mod Deciding
pub mod Choosing
pub mod Ending
pub mod Valid
pub mod Outvoting
pub mod Hearing
