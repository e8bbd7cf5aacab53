pub mod Answers
pub mod OnFile
pub mod Refused
