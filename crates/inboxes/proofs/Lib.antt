pub mod lemmas
pub mod AllEnded
pub mod ViewLists
pub mod RuleIsKept
pub mod TakenInOrder
