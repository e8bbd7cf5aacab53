pub mod Performing
pub mod CommandQueues
pub mod Registers
pub mod Histories
