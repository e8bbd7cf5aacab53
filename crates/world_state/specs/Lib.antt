pub mod Worlds
pub mod Slots
pub mod BlockUses
pub mod Changes
pub mod Acceptances
pub mod AnswerEffects
pub mod Beginnings
