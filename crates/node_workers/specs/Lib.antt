pub mod Portions
pub mod ThreadStates
pub mod Opened
pub mod Closed
pub mod Ended
pub mod Workers
