pub mod lemmas
mod Placing
mod KnownValues
mod Judging
mod Working
mod NextStates
mod Linear
mod Settling
mod Holding
mod Growth
mod AllOrdered
mod TakenAlike
mod Forgetting
