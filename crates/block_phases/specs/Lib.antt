pub mod Phases
pub mod Executions
pub mod Laws
pub mod Endings
