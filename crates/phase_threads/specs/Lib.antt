pub mod Portions
pub mod Carried
pub mod Told
pub mod ThreadStates
pub mod Phased
pub mod Phases
pub mod Standing
pub mod Ended
