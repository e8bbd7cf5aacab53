pub mod lemmas
pub mod OnlyCounted
