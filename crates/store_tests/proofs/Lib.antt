pub mod Counted
pub mod Drawn
pub mod Pruned
pub mod Seats
